-- The cells before `place` are filled.
use mathlib.Core.Path.{◌≡◌}
use lib.ListN.{take}
use Rattle.coin.specs.Strip.{row_cells}
use Rattle.coin.proofs.fill_row.Given as goal

abbrev pub invariant-loop-place : goal.invariant-loop-place
invariant-loop-place l = take l.place l.row ≡ row_cells l.first l.place
