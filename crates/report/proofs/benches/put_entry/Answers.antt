use Rattle.report.proofs.PageLaws.{then}
use Rattle.report.proofs.BenchLaws.{empty, order}
use Rattle.report.proofs.benches.put_entry.Goals as goal

pub returns-then-x-eq0-clause-text : goal.returns-then-x-eq0-clause-text
returns-then-x-eq0-clause-text c = search empty

pub returns-else-x-eq0-clause-text : goal.returns-else-x-eq0-clause-text
returns-else-x-eq0-clause-text c = search (order, then)
