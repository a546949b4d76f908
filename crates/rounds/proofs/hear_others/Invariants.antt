use Rattle.std.proofs.Common.{◌≤◌, ℕ, List, ◌≡◌, false, ◌&&◌, not}
use lib.Dec.{eqb}
use Rattle.model.specs.Rack.{sort_number}
use Rattle.model.specs.Rules.{strip_short}
use Rattle.model.specs.Conductor.{for_each, does, hear}
use Rattle.tables.specs.Layout.{has_bit}
use Rattle.tables.specs.Lent.{held, Same}
use Rattle.rounds.specs.Made.{Made}
use Rattle.rounds.proofs.hear_others.Given as goal

abbrev pub invariant-loop-sender : goal.invariant-loop-sender
invariant-loop-sender l = record {
  same : Same l.initial.memory l.memory;
  few : l.count ≤ l.sender;
  made : (strip : List ℕ) → strip_short l.numbers strip ≡ false → Made l.numbers strip
      (for_each l.sender (λ d. has_bit l.running d && not (eqb d l.who))
      (λ d. does (hear (sort_number l.first.sort) l.first.slot l.first.phase d) l.who)) (held l.initial.memory) (held l.memory) l.count;
}
