use Rattle.report.proofs.BenchLaws.{entry_there, entry_missing}
use Rattle.report.proofs.benches.entry_at.Goals as goal

pub returns-then-has_row : goal.returns-then-has_row
returns-then-has_row c = search entry_there

pub returns : goal.returns
returns c = search entry_missing
