use Rattle.std.proofs.Common.{◌≤◌, ◌*◌, ℕ, List, ◌≡◌, false}
use Rattle.model.specs.Limits.{most_replicas}
use Rattle.model.specs.Rack.{sort_number}
use Rattle.model.specs.Rules.{strip_short}
use Rattle.model.specs.Conductor.{for_each, hear_steps}
use Rattle.tables.specs.Layout.{has_bit}
use Rattle.tables.specs.Lent.{held, Same}
use Rattle.rounds.specs.Made.{Made}
use Rattle.rounds.proofs.all_hear.Given as goal

abbrev pub invariant-loop-c : goal.invariant-loop-c
invariant-loop-c l = record {
  same : Same l.initial.memory l.memory;
  few : l.count ≤ most_replicas * l.c;
  made : (strip : List ℕ) → strip_short l.numbers strip ≡ false → Made l.numbers strip
      (for_each l.c (has_bit l.running) (hear_steps l.numbers.n (has_bit l.running) l.first.slot (sort_number l.first.sort) l.first.phase))
      (held l.initial.memory) (held l.memory) l.count;
}
