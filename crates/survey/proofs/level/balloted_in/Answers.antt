use borrow.Author.Rules.{rules}
use Rattle.survey.proofs.LevelLaws.{of_states, of_votes}
use Rattle.survey.proofs.level.balloted_in.Goals as goal

pub has_sent-requires : goal.has_sent-requires
has_sent-requires c = search (of_states, rules)

pub has_sent-requires-else-has_sent : goal.has_sent-requires-else-has_sent
has_sent-requires-else-has_sent c = search (of_votes, of_states, rules)
