use Rattle.report.proofs.BenchLaws.{bench}
use Rattle.report.proofs.benches.put_bench.Goals as goal

pub returns-clause-text : goal.returns-clause-text
returns-clause-text c = bench _ c.args.numbers _ c.args.orders.now _ c.load-k.ensures c.put_text.ensures.text c.put_decimal.ensures.text
    c.put_light.ensures.text c.put_decimal-2.ensures.text c.put_entries.ensures.text c.put_text-2.ensures.text
