use borrow.Author.Tests.{le-ltb, lt-ltb}
use Rattle.model.specs.Tests.{if}
use Rattle.model.proofs.Branches.{told}
use Rattle.steps.proofs.crashes.missing.Goals as goal

pub returns-then-not-numbers_limited : goal.returns-then-not-numbers_limited
unfolding if
returns-then-not-numbers_limited c = rw (told c.numbers_limited.ensures c.if-not-numbers_limited.true)

pub returns-then-who-numbers : goal.returns-then-who-numbers
unfolding if
returns-then-who-numbers c = rw (told c.numbers_limited.ensures c.if-not-numbers_limited.false, lt-ltb _ _ c.if-who-numbers.true)

pub returns-else-who-numbers : goal.returns-else-who-numbers
unfolding if
returns-else-who-numbers c = rw (told c.numbers_limited.ensures c.if-not-numbers_limited.false, le-ltb _ _ c.if-who-numbers.false)
