use Rattle.tables.specs.Lent.{read}
use Rattle.tallies.specs.Heard.{heard_by}
use Rattle.advance.proofs.NoticeLaws.{Past}
use Rattle.advance.proofs.notices.first_notice.Given as goal

abbrev pub invariant-loop-sender : goal.invariant-loop-sender
invariant-loop-sender l = Past l.numbers (heard_by l.numbers l.who l.slot 0 (read l.memory)) l.sender
