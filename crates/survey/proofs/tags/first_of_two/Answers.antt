use Rattle.model.proofs.Branches.{tests}
use Rattle.survey.proofs.TagLaws.{sooner_blank, sooner_first, sooner_second}
use Rattle.survey.proofs.tags.first_of_two.Goals.{else-x-ne0-via-then-x-ne0+else-leads, else-x-ne0-via-else-x-ne0}
use Rattle.survey.proofs.tags.first_of_two.Goals as goal

pub returns-then-leads : goal.returns-then-leads
returns-then-leads c = search (sooner_first, tests)

pub returns-else-x-ne0 : goal.returns-else-x-ne0
returns-else-x-ne0 c = elim c.else-x-ne0.branch [
  | else-x-ne0-via-then-x-ne0+else-leads w ↦ search (sooner_second, tests)
  | else-x-ne0-via-else-x-ne0 w ↦ search (sooner_blank, tests)
]
