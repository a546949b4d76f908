use mathlib.Core.Path.{◌≡◌, refl}
use Prim.Native.Nat.{◌+◌, ◌-◌, ◌*◌, ◌≤◌}
use native.Mathlib.Omega.{arith}
use lib.ListN.{length}
use Rattle.coin.proofs.Filling.{none_filled, row_inside, row_long, row_more}
use Rattle.coin.proofs.fill_cells.Goals as goal

pub loop-slot-init : goal.loop-slot-init
loop-slot-init c = none_filled _ _ _

pub loop-slot-preserved : goal.loop-slot-preserved
loop-slot-preserved c =
    let a = c.args in
    let l = c.loop-slot in
    let at = l.slot * a.phases in
    let whole : at + a.phases - at ≡ a.phases = omega arith in
    let room : at + a.phases ≤ length l.strip = omega (arith, row_inside a.slots a.phases l.slot (omega arith)) in
    let long = row_long l.strip at a.phases room in
    let done = rw (whole, long) at c.fill_row.ensures in
    rw whole (row_more a.phases a.start l.slot refl a.strip.now l.invariant done)
