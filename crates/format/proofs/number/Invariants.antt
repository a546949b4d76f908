-- The value is what the bytes from `place` on make.
use Rattle.format.proofs.NumberLaws.{Reading}
use Rattle.format.proofs.number.Given as goal

abbrev pub invariant-loop-place : goal.invariant-loop-place
invariant-loop-place l = Reading l.k l.file l.i l.place l.value
