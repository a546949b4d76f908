use native.Mathlib.Omega.{arith}
use Rattle.orders.proofs.PendingLaws.{entry_met, entry_missed}
use Rattle.orders.proofs.pending.entry_place.Goals as goal

pub returns-then-later-log : goal.returns-then-later-log
returns-then-later-log c = entry_met c.first_place-later.ensures c.if-later-log.true (omega arith)

pub returns-then-earlier-from : goal.returns-then-earlier-from
returns-then-earlier-from c = entry_met c.first_place-earlier.ensures c.if-earlier-from.true (omega arith)

pub returns : goal.returns
returns c = search entry_missed
