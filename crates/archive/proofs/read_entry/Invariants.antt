-- The value is what the bytes before `number` make.
use Rattle.archive.proofs.EntryLaws.{Reading}
use Rattle.archive.proofs.read_entry.Given as goal

abbrev pub invariant-loop-number : goal.invariant-loop-number
invariant-loop-number l = Reading l.count l.place l.stored l.number l.value
