use Rattle.report.proofs.PageLaws.{fits, full}
use Rattle.report.proofs.pieces.put.Goals as goal

pub returns-then-report-clause-text : goal.returns-then-report-clause-text
returns-then-report-clause-text c = search fits

pub returns-else-report-clause-text : goal.returns-else-report-clause-text
returns-else-report-clause-text c = search full
