use Prim.Native.Nat.{◌+◌, ◌*◌}
use native.Mathlib.Omega.{arith}
use Rattle.archive.proofs.EntryLaws.{none_read, room, byte_read}
use Rattle.archive.proofs.read_entry.Goals as goal

pub loop-number-init : goal.loop-number-init
loop-number-init c = none_read _ _ _

pub overflow_mul-value : goal.overflow_mul-value
overflow_mul-value c = omega (arith, room _ _ _ c.loop-number.invariant (omega arith))

pub overflow_add-value : goal.overflow_add-value
overflow_add-value c =
    omega (arith, room _ _ _ c.loop-number.invariant (omega arith), c.type_inv.stored (c.loop-number.number * c.args.count + c.args.place), c.from.ensures)

pub loop-number-preserved : goal.loop-number-preserved
loop-number-preserved c =
    rw c.from.ensures (byte_read _ _ _ c.loop-number.invariant (omega (arith, c.type_inv.stored (c.loop-number.number * c.args.count + c.args.place))))
