use mathlib.Core.Path.{refl}
use borrow.Author.Rules.{rules}
use borrow.Author.Tests.{tests}
use Rattle.tables.specs.Checks.{any_spoiled}
use Rattle.cells.proofs.SearchLaws.{any_below}
use Rattle.cells.proofs.records.any_spoiled.Goals as goal

pub returns : goal.returns
unfolding any_spoiled
returns c = any_below _ _ _ _ c.any.ensures.ran refl (λ i t q k. search (rules, tests))
