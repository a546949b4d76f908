use native.Mathlib.Omega.{arith}
use Rattle.std.proofs.lemmas.Bool.Decides.{nat_tests}
use Rattle.model.specs.Tests.{if}
use Rattle.model.specs.TurnedAway.{unless}
use Rattle.shelf.specs.Layouts.{length_entries}
use Rattle.shelf.specs.Calls.{rearranged}
use Rattle.archive.proofs.to_entries.Goals as goal

pub returns-then-stored-gt-MOST_STORED : goal.returns-then-stored-gt-MOST_STORED
unfolding rearranged unless if
returns-then-stored-gt-MOST_STORED c = grind (arith, nat_tests)

pub returns-then-stored-ne0 : goal.returns-then-stored-ne0
unfolding rearranged unless if
returns-then-stored-ne0 c = grind (arith, nat_tests)

pub returns-then-entries-count : goal.returns-then-entries-count
unfolding rearranged unless if
returns-then-entries-count c = grind (arith, nat_tests)

pub returns : goal.returns
unfolding rearranged unless if
returns c = grind (arith, nat_tests, length_entries)
