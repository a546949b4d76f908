use Rattle.tables.specs.Lent.{read}
use Rattle.tallies.specs.Heard.{heard_by}
use Rattle.tallies.proofs.CountLaws.{So_far}
use Rattle.tallies.proofs.count_heard.Given as goal

abbrev pub invariant-loop-sender : goal.invariant-loop-sender
invariant-loop-sender l = So_far (heard_by l.numbers l.who l.slot l.phase (read l.memory)) l.sort l.phase l.sender l.count
