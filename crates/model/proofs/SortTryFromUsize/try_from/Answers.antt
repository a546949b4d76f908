use Rattle.model.specs.Tests.{if}
use Rattle.model.proofs.Branches.{tests}
use Rattle.model.proofs.SortTryFromUsize.try_from.Goals as goal

pub returns-in-1 : goal.returns-in-1
unfolding if
returns-in-1 c = rw c.in-1.is

pub returns-in-2 : goal.returns-in-2
unfolding if
returns-in-2 c = rw c.in-2.is

pub returns-in-3 : goal.returns-in-3
unfolding if
returns-in-3 c = rw c.in-3.is

pub returns-in-4 : goal.returns-in-4
unfolding if
returns-in-4 c = rw c.in-4.is

pub returns-in_default : goal.returns-in_default
unfolding if
returns-in_default c = search tests
