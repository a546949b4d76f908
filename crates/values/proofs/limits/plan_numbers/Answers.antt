use Rattle.model.proofs.Branches.{tests}
use Rattle.model.specs.Tests.{if}
use Rattle.values.proofs.limits.plan_numbers.Goals as goal

pub returns-then-asked-eq0 : goal.returns-then-asked-eq0
unfolding if
returns-then-asked-eq0 c = search tests

pub returns : goal.returns
unfolding if
returns c = search tests
