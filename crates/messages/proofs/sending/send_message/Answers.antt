use Rattle.messages.proofs.CellLaws.{inside}
use Rattle.messages.proofs.sending.send_message.Goals as goal

pub bounds-memory-ballot_place : goal.bounds-memory-ballot_place
bounds-memory-ballot_place c = search inside
