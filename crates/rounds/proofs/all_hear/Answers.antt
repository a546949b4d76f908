use Rattle.std.proofs.Common.{rules, arith}
use Rattle.model.proofs.Branches.{told}
use Rattle.rounds.proofs.MadeLaws.{made_start, made_more, made_past}
use Rattle.rounds.proofs.HearLaws.{some_strip, some_long}
use Rattle.rounds.proofs.FineLaws.{calm_all_hear, ready_on, listens}
use Rattle.rounds.proofs.all_hear.Goals.{then-has_bit, else-has_bit}
use Rattle.rounds.proofs.all_hear.Goals as goal

pub loop-c-init : goal.loop-c-init
loop-c-init c = record { same = search rules; few = omega arith; made = λ strip long. made_start _ _ _ _ _ }

pub hear_others-count-requires : goal.hear_others-count-requires
hear_others-count-requires c = let N = c.args.numbers in (
  listens (ready_on (calm_all_hear _ _ _ _ _ _) (c.loop-c.invariant.made (some_strip N) (some_long N)) c.requires.0) c.loop-c-test.true
      (told c.has_bit.ensures c.if-has_bit.true),
  c.requires.1,
)

pub loop-c-preserved : goal.loop-c-preserved
loop-c-preserved c = let before = c.loop-c.invariant in
    let bound = c.requires.0.fine.within.few in
    elim c.if-has_bit.branch [
      | then-has_bit w ↦ record {
        same = search rules;
        few = omega (arith, w.count-is, w.hear_others-count.ensures.made.0);
        made = λ strip long. rw (w.memory-is, w.count-is)
            (made_more _ _ _ _ _ (before.made strip long) (told c.has_bit.ensures w.if-has_bit.true) (w.hear_others-count.ensures.made.1 strip long));
      }
      | else-has_bit w ↦ record {
        same = search rules;
        few = omega (arith, w.count-is);
        made = λ strip long. rw (w.memory-is, w.count-is) (made_past _ _ _ _ _ (before.made strip long) (told c.has_bit.ensures w.if-has_bit.false));
      }
    ]
