use native.Mathlib.Omega.{arith}
use borrow.Author.Tests.{not-true, not-false}
use Rattle.model.proofs.Branches.{tests, told}
use Rattle.tables.specs.Bounds.{slots_phases, is_long}
use Rattle.refusals.proofs.VetLaws.{in_bounds, on_short, on_strip, on_nobody, on_other, on_crashed, on_running}
use Rattle.refusals.proofs.vet.Goals as goal
use Rattle.refusals.proofs.vet.Goals.{then-not-tables_long-via-then-not-tables_long, then-not-tables_long-via-else-not-tables_long+then-strip-numbers}
use Rattle.refusals.proofs.vet.Goals.{then-numbers-who-via-then-numbers-who, then-numbers-who-via-else-numbers-who+then-numbers-other}

pub tables_long-requires : goal.tables_long-requires
tables_long-requires c = in_bounds _ _ c.requires.0

pub overflow_mul-numbers : goal.overflow_mul-numbers
overflow_mul-numbers c = omega (arith, slots_phases _ (in_bounds _ _ c.requires.0))

pub returns-then-not-tables_long : goal.returns-then-not-tables_long
returns-then-not-tables_long c =
    elim c.then-not-tables_long.branch [
      | then-not-tables_long-via-then-not-tables_long w ↦ search (tests, told, not-true, not-false, on_short)
      | then-not-tables_long-via-else-not-tables_long+then-strip-numbers w ↦ search (tests, told, not-true, not-false, on_strip)
    ]

pub returns-then-numbers-who : goal.returns-then-numbers-who
returns-then-numbers-who c =
    elim c.then-numbers-who.branch [
      | then-numbers-who-via-then-numbers-who w ↦ search (tests, told, not-true, not-false, on_nobody)
      | then-numbers-who-via-else-numbers-who+then-numbers-other w ↦ search (tests, told, not-true, not-false, on_other)
    ]

pub load-requires : goal.load-requires
load-requires c = let b = in_bounds _ _ c.requires.0 in
    let l = (is_long _ _ (told c.tables_long.ensures c.if-not-tables_long.false)).words in
    let p = c.requires.1 in
    let h = c.if-numbers-who.false in
    (omega arith, omega arith)

pub returns-then-load-ne0 : goal.returns-then-load-ne0
returns-then-load-ne0 c = search (tests, told, not-true, not-false, on_crashed)

pub returns : goal.returns
returns c = search (tests, told, not-true, not-false, on_running)
