use Rattle.acts.proofs.StepLaws.{stops}
use Rattle.acts.proofs.ActLaws.{begin_asked, begin_made}
use Rattle.acts.proofs.begin.Goals as goal

pub returns-in_err-tag-clause-outcome : goal.returns-in_err-tag-clause-outcome
returns-in_err-tag-clause-outcome c = stops _ _ _ _ _ _ c.from_residual.ensures.1 c.in_err-tag.ensures

pub propose-requires : goal.propose-requires
propose-requires c = begin_asked _ _ _ _ c.in_ok-tag.ensures

pub returns-clause-outcome : goal.returns-clause-outcome
returns-clause-outcome c = begin_made _ _ _ _ c.in_ok-tag.ensures c.propose.ensures.left
