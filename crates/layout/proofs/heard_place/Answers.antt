use Rattle.layout.proofs.PlaceLaws.{mark_line, mark_block, mark_cell, mark_end}
use Rattle.layout.proofs.heard_place.Goals as goal

pub overflow_add-result : goal.overflow_add-result
overflow_add-result c = search (mark_line _ c.requires)

pub overflow_mul-result-2 : goal.overflow_mul-result-2
overflow_mul-result-2 c = search (mark_block _ c.requires)

pub overflow_add-result-2 : goal.overflow_add-result-2
overflow_add-result-2 c = search (mark_cell _ c.requires)

pub overflow_add-result-3 : goal.overflow_add-result-3
overflow_add-result-3 c = search (mark_end _ c.requires)
