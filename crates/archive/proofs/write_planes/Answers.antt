use Prim.Native.Nat.{◌+◌, ◌-◌, ◌*◌}
use mathlib.Core.Path.{◌≡◌}
use native.Mathlib.Omega.{arith}
use lib.ListN.{length}
use Rattle.archive.proofs.PlaneLaws.{none_stored, plane_stored}
use Rattle.archive.proofs.write_planes.Goals as goal

pub loop-number-init : goal.loop-number-init
loop-number-init c = none_stored _ _

pub loop-number-preserved : goal.loop-number-preserved
loop-number-preserved c =
    let n = length c.args.entries.now in
    let l = c.loop-number in
    let whole : l.number * n + n - l.number * n ≡ n = omega arith in
    rw whole (plane_stored c.args.entries.now c.args.stored.now l.number l.invariant c.write_plane.ensures)
