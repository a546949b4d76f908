use Rattle.acts.proofs.StepLaws.{stops}
use Rattle.acts.proofs.ActLaws.{mark_asked, hear_made}
use Rattle.acts.proofs.hear.Goals as goal

pub returns-in_err-at-clause-outcome : goal.returns-in_err-at-clause-outcome
returns-in_err-at-clause-outcome c = stops _ _ _ _ _ _ c.from_residual.ensures.1 c.in_err-at.ensures

pub mark_heard-requires : goal.mark_heard-requires
mark_heard-requires c = mark_asked _ _ _ _ c.in_ok-at.ensures

pub returns-clause-outcome : goal.returns-clause-outcome
returns-clause-outcome c = hear_made _ _ _ _ c.in_ok-at.ensures c.mark_heard.ensures
