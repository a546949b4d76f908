use Rattle.model.specs.Tests.{if}
use Rattle.model.specs.Rack.{round_in}
use Rattle.model.proofs.Branches.{tests}
use Rattle.model.proofs.RoundFromU16.from.Goals as goal

pub returns-in-0 : goal.returns-in-0
unfolding round_in if
returns-in-0 c = rw c.in-0.is

pub returns-in-1 : goal.returns-in-1
unfolding round_in if
returns-in-1 c = rw c.in-1.is

pub returns-in-2 : goal.returns-in-2
unfolding round_in if
returns-in-2 c = rw c.in-2.is

pub returns-in-3 : goal.returns-in-3
unfolding round_in if
returns-in-3 c = rw c.in-3.is

pub returns-in_default : goal.returns-in_default
unfolding round_in if
returns-in_default c = search tests
