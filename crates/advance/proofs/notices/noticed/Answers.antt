use Rattle.model.proofs.Branches.{told}
use Rattle.advance.proofs.NoticeLaws.{no_row, in_row}
use Rattle.advance.proofs.notices.noticed.Goals as goal

pub returns-then-has_row : goal.returns-then-has_row
returns-then-has_row c = search (in_row, told)

pub returns-else-has_row : goal.returns-else-has_row
returns-else-has_row c = search (no_row, told)
