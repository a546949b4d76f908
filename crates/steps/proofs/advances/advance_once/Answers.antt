use Rattle.std.proofs.Common.{◌∙◌, ap}
use Rattle.effects.specs.Doable.{by_advance}
use Rattle.steps.proofs.AdvanceLaws.{advance_by}
use Rattle.acts.proofs.StepLaws.{doable}
use Rattle.steps.proofs.advances.advance_once.Goals as goal

pub carry_advance-requires : goal.carry_advance-requires
carry_advance-requires c = let judged = c.judge_advance-effect.ensures in (doable _ _ _ _ judged, ap by_advance judged ∙ advance_by _ _ _ _)
