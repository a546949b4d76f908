use Rattle.advance.proofs.RuleLaws.{enough, outcome_1, outcome_0, no_outcome}
use Rattle.advance.proofs.vote_rule.Goals as goal

pub returns-in-Some-true : goal.returns-in-Some-true
returns-in-Some-true c = search (enough, outcome_1)

pub returns-in-Some-false : goal.returns-in-Some-false
returns-in-Some-false c = search (enough, outcome_0)

pub returns-in-None : goal.returns-in-None
returns-in-None c = search (enough, no_outcome)
