use Rattle.format.proofs.KindLaws.{wide, narrow}
use Rattle.format.proofs.Kind.slot_bytes.Goals as goal

pub returns-in-WideHear : goal.returns-in-WideHear
returns-in-WideHear c = wide _ c.in-WideHear.is

pub returns-in_default : goal.returns-in_default
returns-in_default c = narrow _ c.in_default.not-WideHear c.in_default.not-WideOpening
