use Rattle.report.proofs.BenchLaws.{lit, dark}
use Rattle.report.proofs.benches.put_light.Goals as goal

pub returns-then-crashed-eq0-clause-text : goal.returns-then-crashed-eq0-clause-text
returns-then-crashed-eq0-clause-text c = search lit

pub returns-else-crashed-eq0-clause-text : goal.returns-else-crashed-eq0-clause-text
returns-else-crashed-eq0-clause-text c = search dark
