use native.Mathlib.Omega.{arith}
use Rattle.std.proofs.lemmas.Bool.Decides.{nat_tests}
use Rattle.model.specs.Tests.{if}
use Rattle.model.specs.TurnedAway.{unless}
use Rattle.coin.specs.Strip.{strip_filled}
use Rattle.coin.proofs.fill_strip.Goals as goal

pub returns-then-not-strip_limited : goal.returns-then-not-strip_limited
unfolding strip_filled unless if
returns-then-not-strip_limited c = grind (arith, nat_tests)

pub returns-then-strip-slots : goal.returns-then-strip-slots
unfolding strip_filled unless if
returns-then-strip-slots c = grind (arith, nat_tests)

pub returns : goal.returns
unfolding strip_filled unless if
returns c = grind (arith, nat_tests)
