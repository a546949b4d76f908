-- Point 7, of the logs of a run: whatever the calls were, the log of each replica is taken for the archive and comes back.
use Rattle.std.specs.Prelude.{ℕ, ◌*◌, ◌^◌, ◌≤◌, ◌<◌, true, ◌≡◌, List, map, length, take}
use Rattle.std.proofs.Common.{ap}
use Rattle.tables.specs.Types.{Numbers, Plan, Done, Opened}
use Rattle.model.specs.Limits.{planned}
use Rattle.model.specs.Scripts.{ended}
use Rattle.model.specs.History.{Lent}
use Rattle.tables.specs.Layout.{Tables}
use Rattle.tables.specs.Checks.{lengths}
use Rattle.tables.specs.Calls.{open_rack}
use Rattle.tables.specs.Bounds.{bounds, is_long}
use Rattle.tables.specs.Sound.{Sound}
use Rattle.demand.specs.Lists.{Item, as_lent, tables_after, OneRun}
use Rattle.demand.proofs.Openings.{accepted_opening}
use Rattle.demand.specs.Statement.{Demand3}
use Rattle.demand.proofs.Theorem.{demand_3}
use Rattle.shelf.specs.Planes.{entry_bytes, planes}
use Rattle.shelf.specs.Calls.{most_entries, over, to_planes, to_entries}
use Rattle.shelf.specs.Layouts.{Below}
use Rattle.shelf.proofs.Returns.{planes_accept, entries_return}
use Rattle.logs.specs.Handed.{handed_in}

-- a log that the archive takes wherever there is room for it, and gives back
pub record Archived (log : List ℕ) : Type 0 where
  pub few : length log ≤ most_entries
  pub stored : (output : List ℕ) → entry_bytes * length log ≤ length output → to_planes log output ≡ ended Done (over (planes log) output)
  pub read : (output back : List ℕ) → entry_bytes * length log ≤ length output → length log ≤ length back
      → to_entries (take (entry_bytes * length log) (to_planes log output).state) back ≡ ended Done (over log back)

pub archived : (log : List ℕ) → length log ≤ most_entries → Below (2 ^ 64) log → Archived log
archived log few fit = record {
  few = few;
  stored = λ output room. planes_accept log output (record { few = few; room = room });
  read = λ output back room rest. entries_return log output back fit (ap (λ o. o.answer) (planes_accept log output (record { few = few; room = room }))) rest;
}

-- no tag that a list of calls hands in is too large
abbrev pub Narrow : ℕ → List Lent → Type 0
Narrow bound calls = (x : ℕ) → handed_in x calls ≡ true → x < bound

-- `now` are the memories after any list of calls of a run, `calls` are these as the history takes them
module _ (q : Plan) (t : Tables) (strip : List ℕ) (accepted : (open_rack q t strip).answer ≡ Opened (planned q))
    (items : List Item) (one_run : OneRun (planned q) items (open_rack q t strip).tables) where
  abbrev pub N : Numbers
  N = planned q

  abbrev pub now : Tables
  now = tables_after N items (open_rack q t strip).tables

  abbrev calls : List Lent
  calls = map as_lent items

  pub demand : Demand3 N t (open_rack q t strip).tables items
  demand = demand_3 q t strip accepted items one_run

  pub now_sound : Sound N now
  now_sound = record {
    within = bounds N (accepted_opening q t strip accepted).0;
    known = demand.room_enough;
    unspoiled = demand.unspoiled;
    long = is_long N (lengths now) demand.long_enough;
  }
