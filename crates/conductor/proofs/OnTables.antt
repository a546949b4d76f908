-- The theorem that specs/Claims states, of the tables of a run: for all lent tables and strip, every opening that is accepted on
-- them, every list of calls of its run, and any strip that the conductor is lent then.
use Rattle.std.specs.Prelude.{ℕ, List, map, ◌≡◌}
use Rattle.std.proofs.Common.{sym, ◌∙◌, ap}
use Rattle.std.proofs.Math.Path.{subst₃}
use Rattle.tables.specs.Types.{Plan, Opened}
use Rattle.model.specs.Limits.{planned}
use Rattle.model.specs.Answers.{answer_number}
use Rattle.model.specs.Scripts.{conduct}
use Rattle.model.specs.History.{beginning, on_history, after}
use Rattle.tables.specs.Layout.{Tables}
use Rattle.tables.specs.View.{view}
use Rattle.tables.specs.Calls.{on_tables, conducted, open_rack}
use Rattle.tables.specs.Bounds.{bounds}
use Rattle.demand.specs.Lists.{Item, as_lent, tables_after, OneRun}
use Rattle.demand.proofs.Openings.{accepted_opening}
use Rattle.demand.proofs.Theorem.{script_alike, list_follows}
use Rattle.conductor.specs.Claims.{Conducts}
use Rattle.conductor.proofs.Theorems.{conductor}
use Rattle.conductor.specs.OnTables.{number_told}

-- "In a run from an accepted opening"
pub conductor_on_tables : (q : Plan) (t : Tables) (lent : List ℕ) → (open_rack q t lent).answer ≡ Opened (planned q)
    → (items : List Item) → OneRun (planned q) items (open_rack q t lent).tables → (strip : List ℕ)
    → let N = planned q in
    let found = tables_after N items (open_rack q t lent).tables in
    let o = conducted N strip found in
    o.number ≡ 0 → Conducts N (view N found) (view N o.state) o.answer
unfolding conducted
conductor_on_tables q t lent opened items one_run strip accepted =
    let N = planned q in
    let (limits, first) = accepted_opening q t lent opened in
    let b = bounds N limits in
    let h = after N (map as_lent items) in
    let found = tables_after N items (open_rack q t lent).tables in
    let link = list_follows N limits t items _ beginning first one_run in
    let (same, next) = script_alike N limits t strip (conduct N) found h link in
    subst₃ (Conducts N) (sym link.same_view) (sym next.same_view) (sym same)
    (conductor N b.fits b.phases_some (map as_lent items) strip
    (number_told (on_history N strip) (conduct N) h ∙ ap answer_number (sym same) ∙ sym (number_told (on_tables N strip) (conduct N) found) ∙ accepted))
