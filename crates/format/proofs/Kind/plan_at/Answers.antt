use Rattle.std.proofs.Common.{arith}
use Rattle.files.specs.Format.{is_wide}
use Rattle.files.specs.BodyLaws.{slot_some}
use Rattle.format.specs.Kinds.{kind_number}
use Rattle.format.proofs.Kind.plan_at.Goals as goal

pub number-requires : goal.number-requires
number-requires c = let s = slot_some (is_wide (kind_number c.args.self)) in let e = c.slot_bytes-slot.ensures in (omega arith, omega arith)
