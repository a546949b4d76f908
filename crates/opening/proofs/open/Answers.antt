use borrow.Author.Rules.{rules}
use Rattle.tables.specs.Lent.{held}
use Rattle.refusals.proofs.VetLaws.{measured}
use Rattle.opening.proofs.OpenLaws.{on_bad_plan, plan_bounds, on_short_tables, on_short_strip, openable, on_open}
use Rattle.opening.proofs.open.Goals.{then-not-tables_long-via-then-not-tables_long, then-not-tables_long-via-else-not-tables_long+then-strip-numbers}
use Rattle.opening.proofs.open.Goals as goal

pub returns-then-not-plan_limited-clause-outcome : goal.returns-then-not-plan_limited-clause-outcome
returns-then-not-plan_limited-clause-outcome c = search on_bad_plan

pub tables_long-requires : goal.tables_long-requires
tables_long-requires c = search plan_bounds

pub overflow_mul-numbers : goal.overflow_mul-numbers
overflow_mul-numbers c =
    let b = plan_bounds c.args.plan c.plan_limited.ensures c.if-not-plan_limited.false c.plan_numbers-numbers.ensures in search rules

pub returns-then-not-tables_long-clause-outcome : goal.returns-then-not-tables_long-clause-outcome
returns-then-not-tables_long-clause-outcome c = elim c.then-not-tables_long.branch [
  | then-not-tables_long-via-then-not-tables_long w ↦ let m = measured c.measure.ensures c.to_read.ensures in search on_short_tables
  | then-not-tables_long-via-else-not-tables_long+then-strip-numbers w ↦ let m = measured c.measure.ensures c.to_read.ensures in search on_short_strip
]

pub clear_tables-requires : goal.clear_tables-requires
clear_tables-requires c =
    let o = openable c.args.plan c.plan_limited.ensures c.if-not-plan_limited.false c.plan_numbers-numbers.ensures (held c.args.memory.now) c.args.strip.now
    (measured c.measure.ensures c.to_read.ensures) c.tables_long.ensures c.if-not-tables_long.false c.if-strip-numbers.false in
    (o.numbers, o.tables)

pub fill_cells-requires : goal.fill_cells-requires
fill_cells-requires c =
    let o = openable c.args.plan c.plan_limited.ensures c.if-not-plan_limited.false c.plan_numbers-numbers.ensures (held c.args.memory.now) c.args.strip.now
    (measured c.measure.ensures c.to_read.ensures) c.tables_long.ensures c.if-not-tables_long.false c.if-strip-numbers.false in
    search rules

pub returns-clause-outcome : goal.returns-clause-outcome
returns-clause-outcome c =
    on_open c.args.plan c.plan_limited.ensures c.if-not-plan_limited.false c.plan_numbers-numbers.ensures (held c.args.memory.now) c.args.strip.now
    (measured c.measure.ensures c.to_read.ensures) c.tables_long.ensures c.if-not-tables_long.false c.if-strip-numbers.false
    c.clear_tables.ensures.left c.fill_cells.ensures
