use native.Mathlib.Omega.{arith}
use Rattle.effects.proofs.StandLaws.{sent_by, phase_fits}
use Rattle.effects.proofs.sends.send.Goals as goal

pub overflow_cast-phase : goal.overflow_cast-phase
overflow_cast-phase c = omega (arith, phase_fits _ c.requires.2.bounds c.requires.0)

pub returns-clause-left : goal.returns-clause-left
returns-clause-left c = sent_by _ _ c.own_record-k.ensures _ _ _ _ _ _ c.requires.0 c.send_message.ensures.left c.round_of.ensures c.enter.ensures
