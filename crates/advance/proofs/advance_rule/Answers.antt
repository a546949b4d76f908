use Rattle.advance.proofs.StandLaws.{in_exchange, in_state, vote_asks, in_find}
use Rattle.advance.proofs.advance_rule.Goals as goal

pub exchange_rule-requires : goal.exchange_rule-requires
exchange_rule-requires c = search in_exchange

pub state_rule-requires : goal.state_rule-requires
state_rule-requires c = search in_state

pub vote_rule-requires : goal.vote_rule-requires
vote_rule-requires c = vote_asks _ _ _ c.requires.0 c.requires.1 c.requires.2 c.in-Vote.is c.requires.3

pub find_rule-requires : goal.find_rule-requires
find_rule-requires c = search in_find
