use mathlib.Core.Path.{refl}
use borrow.Author.Rules.{rules}
use borrow.Author.Tests.{tests}
use Rattle.tables.specs.View.{held_from}
use Rattle.cells.proofs.SearchLaws.{any_between}
use Rattle.known.proofs.TagLaws.{held_before}
use Rattle.known.proofs.held_from.Goals as goal

pub returns : goal.returns
unfolding held_from
returns c =
    let (few, none) = held_before _ _ c.requires.2 _ _ _ _ _ c.requires.3 in
    any_between _ _ _ _ _ c.any.ensures.ran refl few none (λ i t q k. search (rules, tests))
