use native.Mathlib.Omega.{arith}
use Rattle.std.proofs.lemmas.Bool.Decides.{nat_tests}
use Rattle.model.specs.Tests.{if}
use Rattle.model.specs.TurnedAway.{unless}
use Rattle.shelf.specs.Calls.{rearranged}
use Rattle.archive.proofs.to_planes.Goals as goal

pub returns-then-entries-gt-MOST_ENTRIES : goal.returns-then-entries-gt-MOST_ENTRIES
unfolding rearranged unless if
returns-then-entries-gt-MOST_ENTRIES c = grind (arith, nat_tests)

pub returns-then-stored-entries : goal.returns-then-stored-entries
unfolding rearranged unless if
returns-then-stored-entries c = grind (arith, nat_tests)

pub returns : goal.returns
unfolding rearranged unless if
returns c = grind (arith, nat_tests)
