use native.Mathlib.Omega.{arith}
use Rattle.model.proofs.Branches.{told}
use Rattle.tables.specs.Bounds.{slots_phases}
use Rattle.refusals.proofs.VetLaws.{in_bounds, measured}
use Rattle.conduct.proofs.ConductLaws.{bar_spoiled, bar_short, bar_strip, bar_none}
use Rattle.conduct.proofs.bar.Goals.{then-not-tables_long-via-then-not-tables_long, then-not-tables_long-via-else-not-tables_long+then-strip-numbers}
use Rattle.conduct.proofs.bar.Goals as goal

pub returns-then-run_spoiled : goal.returns-then-run_spoiled
returns-then-run_spoiled c = search bar_spoiled

pub tables_long-requires : goal.tables_long-requires
tables_long-requires c = in_bounds _ _ (told c.run_spoiled.ensures c.if-run_spoiled.false)

pub overflow_mul-numbers : goal.overflow_mul-numbers
overflow_mul-numbers c = omega (arith, slots_phases _ (in_bounds _ _ (told c.run_spoiled.ensures c.if-run_spoiled.false)))

pub returns-then-not-tables_long : goal.returns-then-not-tables_long
returns-then-not-tables_long c = elim c.then-not-tables_long.branch [
  | then-not-tables_long-via-then-not-tables_long w ↦ let m = measured c.measure.ensures c.to_read.ensures in search bar_short
  | then-not-tables_long-via-else-not-tables_long+then-strip-numbers w ↦ let m = measured c.measure.ensures c.to_read.ensures in search bar_strip
]

pub returns : goal.returns
returns c = let m = measured c.measure.ensures c.to_read.ensures in search bar_none
