use mathlib.Core.Path.{refl, ap, ◌∙◌}
use Prim.Native.Nat.{◌<◌}
use native.Mathlib.Omega.{arith}
use lib.ListN.{length}
use Rattle.model.specs.Coins.{coin_entry}
use Rattle.coin.specs.Strip.{row_cells}
use Rattle.coin.proofs.Filling.{cell_filled}
use Rattle.coin.proofs.fill_row.Goals as goal

pub loop-place-init : goal.loop-place-init
unfolding row_cells
loop-place-init c = refl

pub loop-place-preserved : goal.loop-place-preserved
loop-place-preserved c = let inside : c.loop-place.place < length c.loop-place.row = omega arith in
    cell_filled _ _ _ inside c.loop-place.invariant (c.entry_at.ensures ∙ ap coin_entry c.wrapped.ensures)
