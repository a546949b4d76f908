use Rattle.acts.proofs.StepLaws.{taken}
use Rattle.steps.proofs.take_step.Goals as goal

pub returns-in-Crash-clause-outcome : goal.returns-in-Crash-clause-outcome
returns-in-Crash-clause-outcome c = taken _ _ _ _ c.in-Crash.is (c.crash.ensures _ _ _)
