use native.Mathlib.Omega.{arith}
use Rattle.std.proofs.lemmas.Bool.Decides.{nat_tests}
use Rattle.model.specs.Tests.{if}
use Rattle.model.specs.TurnedAway.{unless}
use Rattle.tables.specs.Calls.{crashed}
use Rattle.crash.proofs.crash_core.Goals as goal

pub returns : goal.returns
unfolding crashed unless if
returns c = grind (arith, nat_tests)

pub returns-then-not-numbers_limited : goal.returns-then-not-numbers_limited
unfolding crashed unless if
returns-then-not-numbers_limited c = grind (arith, nat_tests)

pub returns-then-numbers-who : goal.returns-then-numbers-who
unfolding crashed unless if
returns-then-numbers-who c = grind (arith, nat_tests)

pub returns-then-lent-ne0 : goal.returns-then-lent-ne0
unfolding crashed unless if
returns-then-lent-ne0 c = grind (arith, nat_tests)
