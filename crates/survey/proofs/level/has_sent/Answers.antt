use Rattle.survey.proofs.LevelLaws.{sent_seen}
use Rattle.survey.proofs.level.has_sent.Goals as goal

pub returns : goal.returns
returns c = search sent_seen
