use Rattle.std.proofs.Common.{arith}
use Rattle.files.specs.Format.{is_wide}
use Rattle.files.specs.BodyLaws.{slot_some}
use Rattle.format.specs.Kinds.{kind_number}
use Rattle.format.proofs.KindLaws.{opening_long, tag_long, hear_long, short}
use Rattle.format.proofs.Kind.body_length.Goals as goal

pub overflow_add-result : goal.overflow_add-result
overflow_add-result c = omega (arith, slot_some (is_wide (kind_number c.args.self)), c.slot_bytes.ensures)

pub overflow_add-result-in-Hear : goal.overflow_add-result-in-Hear
overflow_add-result-in-Hear c = omega (arith, slot_some (is_wide (kind_number c.args.self)), c.slot_bytes-in-Hear.ensures)

pub returns-in-Opening : goal.returns-in-Opening
returns-in-Opening c = omega (arith, opening_long _ c.in-Opening.is, c.slot_bytes.ensures)

pub returns-in-Submit : goal.returns-in-Submit
returns-in-Submit c = tag_long _ c.in-Submit.is

pub returns-in-Hear : goal.returns-in-Hear
returns-in-Hear c = omega (arith, hear_long _ c.in-Hear.is, c.slot_bytes-in-Hear.ensures)

pub returns-in_default : goal.returns-in_default
returns-in_default c = let d = c.in_default in short _ d.not-Opening d.not-WideOpening d.not-Submit d.not-Relay d.not-Hear d.not-WideHear
