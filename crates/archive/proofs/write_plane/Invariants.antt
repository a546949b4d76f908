-- The bytes from `place` on stand.
use mathlib.Core.Path.{◌≡◌}
use lib.ListN.{drop}
use Rattle.shelf.specs.Planes.{plane}
use Rattle.archive.proofs.write_plane.Given as goal

abbrev pub invariant-loop-place : goal.invariant-loop-place
invariant-loop-place l = drop l.place l.output ≡ drop l.place (plane l.entries l.number)
