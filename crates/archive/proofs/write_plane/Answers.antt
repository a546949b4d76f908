use Prim.Native.Nat.{◌+◌, ◌-◌, ◌<◌}
use mathlib.Core.Path.{◌≡◌}
use native.Mathlib.Omega.{arith}
use lib.ListN.{length, length-map}
use Rattle.shelf.specs.Planes.{byte, plane}
use Rattle.archive.proofs.FillLaws.{one_before}
use Rattle.archive.proofs.PlaneLaws.{plane_byte}
use Rattle.archive.proofs.write_plane.Goals as goal

pub loop-place-preserved : goal.loop-place-preserved
loop-place-preserved c =
    let a = c.args in
    let l = c.loop-place in
    let back : l.place - 1 + 1 ≡ l.place = omega arith in
    let inside : l.place - 1 < length a.entries.now = omega arith in
    let long = length-map a.entries.now (byte a.number) in
    one_before (plane a.entries.now a.number) l.output (l.place - 1) (omega arith) (omega arith) (rw back l.invariant)
    (plane_byte a.number a.entries.now (l.place - 1) inside)
