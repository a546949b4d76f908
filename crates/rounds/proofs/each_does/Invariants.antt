use Rattle.std.proofs.Common.{◌≤◌}
use Rattle.model.specs.Conductor.{for_each, does}
use Rattle.tables.specs.Layout.{has_bit}
use Rattle.tables.specs.Lent.{held, Same}
use Rattle.rounds.specs.Made.{Made}
use Rattle.rounds.proofs.each_does.Given as goal

abbrev pub invariant-loop-c : goal.invariant-loop-c
invariant-loop-c l = record {
  same : Same l.initial.memory l.memory;
  few : l.count ≤ l.c;
  made : Made l.numbers l.strip (for_each l.c (has_bit l.mask) (does l.act)) (held l.initial.memory) (held l.memory) l.count;
}
