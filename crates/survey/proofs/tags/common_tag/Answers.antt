use Rattle.survey.proofs.TagLaws.{first_none, first_more, first_all}
use Rattle.survey.proofs.tags.common_tag.Goals as goal

pub loop-c-init : goal.loop-c-init
loop-c-init c = search first_none

pub loop-c-preserved : goal.loop-c-preserved
loop-c-preserved c = search first_more

pub returns : goal.returns
returns c = search first_all
