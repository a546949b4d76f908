use Rattle.tables.specs.Lent.{read}
use Rattle.tallies.specs.Heard.{heard_by}
use Rattle.tallies.proofs.LeadLaws.{Ahead, heard_tag}
use Rattle.tallies.proofs.leading_tag.Given as goal

abbrev pub invariant-loop-sender : goal.invariant-loop-sender
invariant-loop-sender l = Ahead (heard_tag l.numbers (heard_by l.numbers l.who l.slot 0 (read l.memory))) l.sender l.lead
