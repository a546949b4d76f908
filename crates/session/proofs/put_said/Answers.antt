use mathlib.Core.Path.{ap, ◌∙◌}
use Rattle.report.proofs.PageLaws.{nothing}
use Rattle.files.specs.Found.{Ok, Err, None}
use Rattle.files.specs.Reported.{said_line}
use Rattle.session.proofs.ReportLaws.{says}
use Rattle.session.proofs.put_said.Goals as goal

pub returns-in-Ok-None-clause-text : goal.returns-in-Ok-None-clause-text
unfolding said_line
returns-in-Ok-None-clause-text c = says _ _ _ (Ok None) (c.in-Ok-None.is ∙ ap Ok (rw c.in-Ok-None.is at c.in-Ok-None.field-0-is)) (nothing _)

pub returns-in-Err-clause-text : goal.returns-in-Err-clause-text
unfolding said_line
returns-in-Err-clause-text c = says _ _ _ (Err _) c.in-Err.is c.put_refused.ensures.text
