use Rattle.std.specs.Prelude.{◌≡◌}
use Rattle.tables.specs.View.{log_in}
use Rattle.files.specs.Page.{shown, print}
use Rattle.files.specs.Lines.{entries_text}
use Rattle.report.proofs.benches.put_entries.Given as goal

abbrev pub invariant-loop-s : goal.invariant-loop-s
invariant-loop-s l = record {
  same : l.report.bytes.ghost_name ≡ l.initial.report.bytes.ghost_name;
  text : shown l.report ≡ print (shown l.initial.report) (entries_text l.s (log_in l.numbers l.orders l.c));
}
