use Rattle.model.proofs.Branches.{tests}
use Rattle.orders.proofs.RuleLaws.{begin_busy, begin_full, begin_none, begin_sends}
use Rattle.orders.proofs.rule.begin_rule.Goals as goal

pub returns-then-ne : goal.returns-then-ne
returns-then-ne c = search (begin_busy, c.if-ne.ensures)

pub returns-then-numbers-closed : goal.returns-then-numbers-closed
returns-then-numbers-closed c = search (begin_full, c.if-ne.ensures, tests)

pub returns-then-first-eq0 : goal.returns-then-first-eq0
returns-then-first-eq0 c = search (begin_none, c.if-ne.ensures, tests)

pub returns : goal.returns
returns c = search (begin_sends, c.if-ne.ensures, tests)
