use Rattle.std.proofs.Common.{rules, arith, ◌∙◌, ap}
use mir.Val.{bool_byte}
use Rattle.model.proofs.Branches.{told}
use Rattle.rounds.proofs.MadeLaws.{ok_counts, low_byte, made_one, made_start, made_more, made_past}
use Rattle.rounds.proofs.each_does.Goals.{then-has_bit, else-has_bit}
use Rattle.rounds.proofs.each_does.Goals as goal

pub loop-c-init : goal.loop-c-init
loop-c-init c = record { same = search rules; few = omega arith; made = made_start _ _ _ _ _ }

pub overflow_add-count : goal.overflow_add-count
overflow_add-count c = omega (arith, c.from-count.ensures, low_byte c.is_ok.result)

pub loop-c-preserved : goal.loop-c-preserved
loop-c-preserved c = let before = c.loop-c.invariant in
    elim c.if-has_bit.branch [
      | then-has_bit w ↦ record {
        same = search rules;
        few = omega (arith, w.count-is, w.from-count.ensures, low_byte w.is_ok.result);
        made = rw (w.memory-is, w.count-is)
            (made_more _ _ _ _ _ before.made (told c.has_bit.ensures w.if-has_bit.true)
            (made_one _ _ _ _ w.take_step.ensures.outcome
            (w.from-count.ensures ∙ ap bool_byte w.is_ok.ensures.value ∙ ok_counts w.take_step.result)));
      }
      | else-has_bit w ↦ record {
        same = search rules;
        few = omega (arith, w.count-is);
        made = rw (w.memory-is, w.count-is) (made_past _ _ _ _ _ before.made (told c.has_bit.ensures w.if-has_bit.false));
      }
    ]
