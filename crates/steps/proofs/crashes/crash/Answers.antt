use Rattle.std.proofs.Common.{[]}
use Rattle.acts.proofs.StepLaws.{stops}
use Rattle.steps.proofs.HaltLaws.{crash_judges, halt_asked, crash_made}
use Rattle.steps.proofs.crashes.crash.Goals as goal

pub returns-in_err-judge_crash : goal.returns-in_err-judge_crash
returns-in_err-judge_crash c = λ os bs strip. stops _ strip _ _ _ _ c.from_residual.ensures.1 (crash_judges _ strip _ _ os bs c.in_err-judge_crash.ensures)

pub halt-requires : goal.halt-requires
halt-requires c = halt_asked _ [] _ _ [] [] c.in_ok-judge_crash.ensures

pub returns : goal.returns
returns c = λ os bs strip. crash_made _ strip _ _ os bs c.in_ok-judge_crash.ensures c.halt.ensures
