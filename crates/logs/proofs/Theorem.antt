-- Point 7, of the logs of a run: whatever the calls were, the log of each replica is taken for the archive and comes back.
use Rattle.std.specs.Prelude.{ℕ, ◌^◌, ◌<◌, ◌≡◌, List, map, eqb}
use Rattle.std.proofs.Common.{ap, ◌∙◌, arith, eqb-true}
use Rattle.std.proofs.lemmas.Bool.{eqb-false}
use Rattle.tables.specs.Types.{Numbers, Plan, Opened}
use Rattle.model.specs.Limits.{planned}
use Rattle.model.specs.Rack.{Rack}
use Rattle.model.specs.History.{Lent, after, closed, entry}
use Rattle.model.proofs.Cases.{either}
use Rattle.tables.specs.Layout.{Tables}
use Rattle.tables.specs.Calls.{open_rack}
use Rattle.demand.specs.Lists.{Item, as_lent, tables_after, OneRun}
use Rattle.shelf.specs.Layouts.{Below}
use Rattle.logs.specs.Log.{log_of, log_cells, made_below, closed_low, length_cells}
use Rattle.logs.proofs.Log.{same_log}
use Rattle.logs.proofs.Handed.{submitted_handed}
use Rattle.logs.specs.Theorem.{Archived, Narrow, archived, demand, now_sound}

-- `now` are the memories after any list of calls of a run, `calls` are these as the history takes them
module _ (q : Plan) (t : Tables) (strip : List ℕ) (accepted : (open_rack q t strip).answer ≡ Opened (planned q))
    (items : List Item) (one_run : OneRun (planned q) items (open_rack q t strip).tables) where
  abbrev N : Numbers
  N = planned q

  abbrev now : Tables
  now = tables_after N items (open_rack q t strip).tables

  abbrev calls : List Lent
  calls = map as_lent items

  module _ (c : ℕ) (there : c < N.n) where
    -- the cells of its log are the history's entries
    pub log_is : log_cells N now c ≡ log_of ((after N calls).rack.at c)
    log_is = same_log N (now_sound q t strip accepted items one_run) there
        ∙ ap (λ (r : Rack). log_of (r.at c)) (demand q t strip accepted items one_run).same_rack

    -- its entries are empty, or were handed in
    log_below : {bound : ℕ} → 0 < bound → Narrow bound calls → Below bound (log_of ((after N calls).rack.at c))
    log_below some narrow = made_below (entry (after N calls) c) (closed (after N calls) c) some (λ s low.
        let x = entry (after N calls) c s in
        either (eqb x 0) (λ e. rw (eqb-true x 0 e) some)
        (λ e. narrow x (submitted_handed x N calls ((demand q t strip accepted items one_run).history_safe.was_submitted c s low (eqb-false x 0 e)))))

    -- tags are numbers of 64 bits, as the calls take them
    pub log_archived : Narrow (2 ^ 64) calls → Archived (log_cells N now c)
    log_archived narrow =
        let few = (now_sound q t strip accepted items one_run).within.slots_few in
        archived (log_cells N now c) (rw (length_cells N (now_sound q t strip accepted items one_run) there)
        (omega (arith, closed_low N (now_sound q t strip accepted items one_run) there)))
        (rw log_is (log_below (omega arith) narrow))
