-- The rows before `slot` are filled, and the rest is as it was.
use mathlib.Core.Path.{◌≡◌}
use mathlib.Core.List.{◌++◌}
use Prim.Native.Nat.{◌*◌}
use lib.ListN.{drop}
use Rattle.model.specs.Coins.{filled_cells}
use Rattle.coin.proofs.fill_cells.Given as goal

abbrev pub invariant-loop-slot : goal.invariant-loop-slot
invariant-loop-slot l = l.strip ≡ filled_cells l.phases l.start (l.slot * l.phases) ++ drop (l.slot * l.phases) l.initial.strip
