use Rattle.std.proofs.Common.{rules}
use mathlib.Core.Path.{refl}
use Rattle.report.proofs.PageLaws.{nothing, more}
use Rattle.report.proofs.pieces.put_text.Goals as goal

pub loop-byte-init : goal.loop-byte-init
loop-byte-init c = record { same = refl; text = nothing _ }

pub loop-byte-preserved : goal.loop-byte-preserved
loop-byte-preserved c = record { same = search rules; text = more _ _ _ c.loop-byte-test.true c.loop-byte.invariant.text c.put.ensures.text }
