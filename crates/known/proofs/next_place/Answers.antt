use mathlib.Core.Path.{◌≡◌}
use mathlib.Core.Logic.{◌≢◌}
use native.Mathlib.Omega.{arith}
use borrow.Author.Rules.{rules}
use borrow.Author.Tests.{tests}
use Rattle.std.proofs.lemmas.Iterator.{YieldsList-from_slice, IsFirst-from_position}
use Rattle.known.proofs.TagLaws.{cell_found}
use Rattle.known.proofs.next_place.Goals as goal

pub returns : goal.returns
returns c =
    let x = c.args.x in
    let found =
    IsFirst-from_position _ _ c.position.result (λ y. y ≡ x) (λ y. y ≢ x) c.position.ensures.ran (YieldsList-from_slice _ c.iter.ensures.rest)
    (λ y q k. search (rules, tests)) (λ y q k. search (rules, tests)) in
    cell_found _ x _ _ c.position.result (omega arith) (omega arith) found (search rules)
