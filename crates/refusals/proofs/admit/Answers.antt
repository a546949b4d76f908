use Rattle.std.proofs.Common.{sym, ◌∙◌}
use Rattle.model.specs.Tests.{if}
use Rattle.model.specs.TurnedAway.{unless}
use Rattle.refusals.specs.Vet.{vetted, first_vetted}
use Rattle.refusals.proofs.VetLaws.{measured}
use Rattle.refusals.proofs.admit.Goals as goal

pub returns-then-run_spoiled : goal.returns-then-run_spoiled
unfolding first_vetted unless if
returns-then-run_spoiled c = rw (sym c.run_spoiled.ensures ∙ c.if-run_spoiled.true)

pub returns : goal.returns
unfolding first_vetted vetted unless if
returns c = c.vet.ensures ∙ rw (measured c.measure-lengths.ensures c.to_read.ensures, sym c.run_spoiled.ensures ∙ c.if-run_spoiled.false)
