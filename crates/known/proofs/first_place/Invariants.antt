use Prim.Native.Nat.{◌+◌, ◌*◌}
use Rattle.known.specs.Room.{Absent}
use Rattle.known.proofs.first_place.Given as goal

abbrev pub invariant-loop-turn : goal.invariant-loop-turn
invariant-loop-turn l = Absent l.cells l.x l.from (l.from + 4 * l.turn)
