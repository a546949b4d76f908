use Rattle.std.proofs.Common.{arith, ◌+◌, ◌-◌}
use Rattle.format.proofs.NumberLaws.{none_read, room, byte_read}
use Rattle.format.proofs.number.Goals as goal

pub loop-place-init : goal.loop-place-init
loop-place-init c = none_read _ _ _

pub overflow_mul-value : goal.overflow_mul-value
overflow_mul-value c = omega (arith, room _ _ _ c.loop-place.invariant c.requires.0 (omega arith))

pub overflow_add-value : goal.overflow_add-value
overflow_add-value c =
    omega (arith, room _ _ _ c.loop-place.invariant c.requires.0 (omega arith), c.type_inv.file (c.args.i + (c.loop-place.place - 1)), c.from.ensures)

pub loop-place-preserved : goal.loop-place-preserved
loop-place-preserved c =
    rw c.from.ensures
    (byte_read _ _ _ c.loop-place.invariant (omega arith) (omega arith) (omega (arith, c.type_inv.file (c.args.i + (c.loop-place.place - 1)))))
