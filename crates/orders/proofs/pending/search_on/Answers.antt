use native.Mathlib.Omega.{arith}
use Rattle.model.proofs.Branches.{tests}
use Rattle.orders.proofs.PendingLaws.{stays_blank, stays_behind, stays_unheld, stays_logged, comes_ahead}
use Rattle.orders.proofs.pending.search_on.Goals.{then-x-eq0-via-then-x-eq0}
use Rattle.orders.proofs.pending.search_on.Goals.{then-x-eq0-via-else-x-eq0+then-not-leads}
use Rattle.orders.proofs.pending.search_on.Goals.{then-x-eq0-via-else-x-eq0+else-not-leads+then-not-has_bit}
use Rattle.orders.proofs.pending.search_on.Goals as goal

pub returns-then-x-eq0 : goal.returns-then-x-eq0
returns-then-x-eq0 c = (
  elim c.then-x-eq0.branch [
    | then-x-eq0-via-then-x-eq0 w ↦ search (stays_blank, tests)
    | then-x-eq0-via-else-x-eq0+then-not-leads w ↦ search stays_behind
    | then-x-eq0-via-else-x-eq0+else-not-leads+then-not-has_bit w ↦ search stays_unheld
  ],
  search,
)

pub returns-in-Some : goal.returns-in-Some
returns-in-Some c = let (few, met) = c.in-Some.ensures in (search (stays_logged, met), omega arith)

pub returns-in-None : goal.returns-in-None
returns-in-None c = (search (comes_ahead, tests, c.in-None.ensures), search)
