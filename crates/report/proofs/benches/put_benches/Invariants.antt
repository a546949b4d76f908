use Rattle.std.specs.Prelude.{◌≡◌}
use Rattle.files.specs.Page.{shown, print}
use Rattle.files.specs.Lines.{benches_in}
use Rattle.report.proofs.benches.put_benches.Given as goal

abbrev pub invariant-loop-c : goal.invariant-loop-c
invariant-loop-c l = record {
  same : l.report.bytes.ghost_name ≡ l.initial.report.bytes.ghost_name;
  text : shown l.report ≡ print (shown l.initial.report) (benches_in l.numbers l.words l.orders l.c);
}
