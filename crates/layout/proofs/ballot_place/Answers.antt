use Rattle.layout.proofs.PlaceLaws.{ballot_line, ballot_block, ballot_end}
use Rattle.layout.proofs.ballot_place.Goals as goal

pub overflow_add-result : goal.overflow_add-result
overflow_add-result c = search (ballot_line _ c.requires)

pub overflow_mul-result-2 : goal.overflow_mul-result-2
overflow_mul-result-2 c = search (ballot_block _ c.requires)

pub overflow_add-result-2 : goal.overflow_add-result-2
overflow_add-result-2 c = search (ballot_end _ c.requires)
