use mathlib.Core.Path.{◌∙◌}
use native.Mathlib.Omega.{arith}
use Rattle.survey.proofs.MarkLaws.{marks_both, marks_second, marks_neither}
use Rattle.survey.proofs.TagLaws.{lacking_all}
use Rattle.survey.proofs.tags.find_lacking.Goals.{then-has_bit+then-not-held_from, else-has_bit}
use Rattle.survey.proofs.tags.find_lacking.Goals.{else-has_bit-via-then-has_bit+else-not-held_from, else-has_bit-via-else-has_bit}
use Rattle.survey.proofs.tags.find_lacking.Goals as goal

pub loop-c-preserved : goal.loop-c-preserved
loop-c-preserved c = elim c.if-has_bit.branch [
  | then-has_bit+then-not-held_from w ↦
      marks_both _ _ c.loop-c.invariant c.has_bit.ensures w.if-has_bit.true w.held_from.ensures w.if-not-held_from.true (w.mask-is ∙ w.with_bit-mask.ensures)
  | else-has_bit w ↦ elim w.else-has_bit.branch [
    | else-has_bit-via-then-has_bit+else-not-held_from v ↦ marks_second _ _ c.loop-c.invariant v.held_from.ensures v.if-not-held_from.false w.mask-is
    | else-has_bit-via-else-has_bit v ↦ marks_neither _ _ c.loop-c.invariant c.has_bit.ensures v.if-has_bit.false w.mask-is
  ]
]

pub returns : goal.returns
returns c = lacking_all c.args.numbers _ _ _ c.requires.1 _ c.holders_base-base.ensures c.known_in-known.ensures
    (omega arith) (omega arith) c.loop-c.invariant
