use Rattle.std.proofs.Common.{rules}
use mathlib.Core.Path.{refl}
use Rattle.report.proofs.BenchLaws.{no_entry, entry_more}
use Rattle.report.proofs.benches.put_entries.Goals as goal

pub loop-s-init : goal.loop-s-init
loop-s-init c = record { same = refl; text = no_entry _ _ }

pub loop-s-preserved : goal.loop-s-preserved
loop-s-preserved c = record {
  same = search rules;
  text = entry_more _ _ _ _ c.loop-s.invariant.text c.entry_at.ensures c.put_entry.ensures.text;
}
