use Rattle.acts.proofs.StepLaws.{stops}
use Rattle.acts.proofs.ActLaws.{hold_asks, hold_made}
use Rattle.acts.proofs.relay.Goals as goal

pub returns-in_err-judge_relay-clause-outcome : goal.returns-in_err-judge_relay-clause-outcome
returns-in_err-judge_relay-clause-outcome c = stops _ _ _ _ _ _ c.from_residual.ensures.1 c.in_err-judge_relay.ensures

pub hold_tag-requires : goal.hold_tag-requires
hold_tag-requires c = hold_asks _ _ _ _ c.in_ok-judge_relay.ensures

pub returns-clause-outcome : goal.returns-clause-outcome
returns-clause-outcome c = hold_made _ _ _ _ c.in_ok-judge_relay.ensures c.hold_tag.ensures
