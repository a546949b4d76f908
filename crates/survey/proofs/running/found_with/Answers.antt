use Rattle.model.specs.Tests.{if}
use Rattle.model.proofs.Branches.{tests}
use Rattle.survey.proofs.running.found_with.Goals as goal

pub returns-then-k-ne0 : goal.returns-then-k-ne0
unfolding if
returns-then-k-ne0 c = search tests

pub returns : goal.returns
unfolding if
returns c = search (tests, c.with_bit.ensures)
