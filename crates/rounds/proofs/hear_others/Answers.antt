use Rattle.std.proofs.Common.{rules, arith, ap, not}
use borrow.Author.Tests.{eq-eqb, ne_eqb}
use Rattle.model.proofs.Branches.{told}
use Rattle.model.proofs.Cases.{and_both, and_none, and_first}
use Rattle.tables.specs.Layout.{has_bit}
use Rattle.rounds.proofs.MadeLaws.{made_start, made_more, made_idle, made_past}
use Rattle.rounds.proofs.HearLaws.{some_strip, some_long, of_run, looks, made_refused, made_heard}
use Rattle.rounds.proofs.FineLaws.{calm_hears, listening_on}
use Rattle.rounds.proofs.hear_others.Goals.{then-has_bit+then-sender-who+then-is_unheard, else-has_bit}
use Rattle.rounds.proofs.hear_others.Goals.{else-has_bit-via-then-has_bit+then-sender-who+else-is_unheard}
use Rattle.rounds.proofs.hear_others.Goals.{else-has_bit-via-then-has_bit+else-sender-who, else-has_bit-via-else-has_bit}
use Rattle.rounds.proofs.hear_others.Goals as goal

pub loop-sender-init : goal.loop-sender-init
loop-sender-init c = record { same = search rules; few = omega arith; made = λ strip long. made_start _ _ _ _ _ }

pub is_unheard-requires : goal.is_unheard-requires
is_unheard-requires c = let N = c.args.numbers in
    let l = listening_on (calm_hears _ _ _ _ _ _) (c.loop-sender.invariant.made (some_strip N) (some_long N)) c.requires.0 in
    ((looks l).0, of_run c.requires.1 c.loop-sender-test.true, (looks l).1)

pub loop-sender-preserved : goal.loop-sender-preserved
loop-sender-preserved c = let N = c.args.numbers in
    let before = c.loop-sender.invariant in
    let l = listening_on (calm_hears _ _ _ _ _ _) (before.made (some_strip N) (some_long N)) c.requires.0 in
    elim c.if-has_bit.branch [
      | then-has_bit+then-sender-who+then-is_unheard w ↦ record {
        same = search rules;
        few = omega (arith, w.count-is);
        made = λ strip long. rw (w.memory-is, w.count-is) (made_more _ _ _ _ _ (before.made strip long)
            (and_both _ _ (told c.has_bit.ensures w.if-has_bit.true) (ap not (ne_eqb _ _ w.if-sender-who.true)))
            (made_heard _ _ _ _ l (of_run c.requires.1 c.loop-sender-test.true) strip long
            (told w.is_unheard.ensures w.if-is_unheard.true) w.mark_heard.ensures));
      }
      | else-has_bit w ↦ record {
        same = search rules;
        few = omega (arith, w.count-is);
        made = λ strip long. rw (w.memory-is, w.count-is) (elim w.else-has_bit.branch [
          | else-has_bit-via-then-has_bit+then-sender-who+else-is_unheard v ↦ made_idle _ _ _ _ _ (before.made strip long)
              (and_both _ _ (told c.has_bit.ensures v.if-has_bit.true) (ap not (ne_eqb _ _ v.if-sender-who.true)))
              (made_refused _ _ _ _ l (of_run c.requires.1 c.loop-sender-test.true) strip long
              (told v.is_unheard.ensures v.if-is_unheard.false))
          | else-has_bit-via-then-has_bit+else-sender-who v ↦ made_past _ _ _ _ _ (before.made strip long)
              (and_none (has_bit c.args.running c.loop-sender.sender) _ (ap not (eq-eqb _ _ v.if-sender-who.false)))
          | else-has_bit-via-else-has_bit v ↦ made_past _ _ _ _ _ (before.made strip long) (and_first _ _ (told c.has_bit.ensures v.if-has_bit.false))
        ]);
      }
    ]
