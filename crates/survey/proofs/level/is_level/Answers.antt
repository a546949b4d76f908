use mathlib.Core.Bool.{not}
use mathlib.Core.Path.{ap, ◌∙◌}
use Rattle.model.proofs.Branches.{told}
use Rattle.survey.proofs.LevelLaws.{level_not, level_past, level_silent}
use Rattle.survey.proofs.level.is_level.Goals.{then-has_row, else-has_row}
use Rattle.survey.proofs.level.is_level.Goals as goal

pub returns-after-has_row : goal.returns-after-has_row
returns-after-has_row c = elim c.if-has_row.branch [
  | then-has_row w ↦ level_silent _ _ _ _ _ c.any_uneven.ensures c.if-not-any_uneven.true (w.result-is ∙ w.anyone_spoke.ensures)
  | else-has_row w ↦
      let past = told c.has_row.ensures w.if-has_row.false in
      ap not (w.result-is ∙ w.if-has_row.false) ∙ level_past c.args.numbers _ _ _ _ c.any_uneven.ensures c.if-not-any_uneven.true past
]

pub returns-else-not-any_uneven : goal.returns-else-not-any_uneven
returns-else-not-any_uneven c = ap not c.if-not-any_uneven.false ∙ level_not c.args.numbers _ _ _ _ c.any_uneven.ensures c.if-not-any_uneven.false
