-- Document 02, "some relay, begin, hear or advance .. is accepted, unless an advance is refused for used-up phases", by what the calls on
-- the memories answer: number 0, or 15.
use Rattle.std.specs.Prelude.{List, ◌⊎◌}
use Rattle.std.proofs.Common.{inl, inr}
use Rattle.tables.specs.Types.{Numbers}
use Rattle.model.specs.Scripts.{advance}
use Rattle.safety.specs.Claims.{CanMove, UsedUp}
use Rattle.tables.specs.Layout.{Tables}
use Rattle.demand.specs.Lists.{Item, tables_after}
use Rattle.demand.specs.Statement.{by_tables, Demand3}
use Rattle.demand.specs.Onward.{CallMoves, CallUsedUp, CallsOnward, moves_answered, used_up_answered}

module _ (N : Numbers) (t : Tables) where
  answered_so : CanMove N (by_tables N t) ⊎ UsedUp N (by_tables N t) → CallMoves N t ⊎ CallUsedUp N t
  answered_so (inl m) =
      inl (record { step = m.step; counts = m.counts; accepts = λ strip long. moves_answered N strip m.step t (m.goes strip long) })
  answered_so (inr u) = inr (record { who = u.who; refuses = λ strip long. used_up_answered N strip (advance u.who) t (u.refused strip long) })

-- after every list of calls of a run
pub calls_onward : (N : Numbers) (opening first : Tables) (items : List Item) → Demand3 N opening first items → CallsOnward N (tables_after N items first)
calls_onward N opening first items d few c there running busy = answered_so N _ (d.tables_onward few c there running busy)
