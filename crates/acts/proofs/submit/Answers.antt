use Rattle.acts.proofs.StepLaws.{stops}
use Rattle.acts.proofs.ActLaws.{hold_asks, hold_made}
use Rattle.acts.proofs.submit.Goals as goal

pub returns-in_err-judge_submit-clause-outcome : goal.returns-in_err-judge_submit-clause-outcome
returns-in_err-judge_submit-clause-outcome c = stops _ _ _ _ _ _ c.from_residual.ensures.1 c.in_err-judge_submit.ensures

pub hold_tag-requires : goal.hold_tag-requires
hold_tag-requires c = hold_asks _ _ _ _ c.in_ok-judge_submit.ensures

pub returns-clause-outcome : goal.returns-clause-outcome
returns-clause-outcome c = hold_made _ _ _ _ c.in_ok-judge_submit.ensures c.hold_tag.ensures
