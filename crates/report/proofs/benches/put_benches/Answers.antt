use Rattle.std.proofs.Common.{rules}
use mathlib.Core.Path.{refl}
use Rattle.report.proofs.BenchLaws.{no_bench, bench_more}
use Rattle.report.proofs.benches.put_benches.Goals as goal

pub loop-c-init : goal.loop-c-init
loop-c-init c = record { same = refl; text = no_bench _ _ _ _ }

pub loop-c-preserved : goal.loop-c-preserved
loop-c-preserved c = record { same = search rules; text = bench_more _ _ _ _ _ c.loop-c.invariant.text c.put_bench.ensures.text }
