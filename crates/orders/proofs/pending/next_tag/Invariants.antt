use Prim.Native.Nat.{◌≤◌}
use Rattle.std.proofs.Common.{length}
use Rattle.orders.specs.Waiting.{waits_at}
use Rattle.orders.proofs.PendingLaws.{First, Stands}
use Rattle.orders.proofs.pending.next_tag.Given as goal

abbrev pub invariant-loop-tag : goal.invariant-loop-tag
invariant-loop-tag l = (l.found.behind ≤ length l.log)
    × First (Stands l.orders (waits_at l.holders l.log l.who l.words l.orders) 0 (length l.yielded)) l.found.first
