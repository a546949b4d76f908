-- The planes before `number` stand at the front, and the rest is as it was.
use Prim.Native.Nat.{◌*◌}
use mathlib.Core.Path.{◌≡◌}
use mathlib.Core.List.{◌++◌}
use lib.ListN.{length, drop}
use Rattle.archive.proofs.PlaneLaws.{first}
use Rattle.archive.proofs.write_planes.Given as goal

abbrev pub invariant-loop-number : goal.invariant-loop-number
invariant-loop-number l = l.stored ≡ first l.entries l.number ++ drop (l.number * length l.entries) l.initial.stored
