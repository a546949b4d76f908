use mathlib.Core.Path.{refl}
use borrow.Author.Rules.{rules}
use borrow.Author.Tests.{tests}
use Rattle.cells.proofs.SearchLaws.{any_below}
use Rattle.survey.proofs.level.anyone_spoke.Goals as goal

pub returns : goal.returns
returns c = any_below _ _ _ _ c.any.ensures.ran refl (λ i t q k. search (rules, tests))
