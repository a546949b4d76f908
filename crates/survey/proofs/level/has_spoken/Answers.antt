use borrow.Author.Rules.{rules}
use Rattle.tables.specs.Addresses.{notice_within}
use Rattle.survey.proofs.LevelLaws.{of_proposals}
use Rattle.survey.proofs.level.has_spoken.Goals as goal

pub has_sent-requires : goal.has_sent-requires
has_sent-requires c = search (of_proposals, rules)

pub has_sent-requires-else-has_sent : goal.has_sent-requires-else-has_sent
has_sent-requires-else-has_sent c = search (notice_within, rules)
