use Rattle.tables.specs.Lent.{held}
use Rattle.opening.proofs.OpenLaws.{cleared_all}
use Rattle.opening.proofs.clear_tables.Goals as goal

pub returns-clause-left : goal.returns-clause-left
returns-clause-left c =
    cleared_all c.args.numbers (held c.args.memory.now) c.words_need.ensures c.orders_need.ensures c.ballots_need.ensures
    c.clear.ensures c.clear-2.ensures c.clear-3.ensures
