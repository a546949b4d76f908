use Rattle.messages.proofs.CellLaws.{inside}
use Rattle.messages.proofs.sending.store_mark.Goals as goal

pub offset_bounds-words-heard_place : goal.offset_bounds-words-heard_place
offset_bounds-words-heard_place c = search inside

pub bounds-words-heard_place : goal.bounds-words-heard_place
bounds-words-heard_place c = search inside
