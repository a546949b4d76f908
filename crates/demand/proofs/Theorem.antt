-- Demand 3, proved: by induction over the list, the tables stay linked to the history and every call is answered alike.
use Rattle.std.specs.Prelude.{ℕ, Bool, ◌≡◌}
use Rattle.std.proofs.Common.{arith}
use Rattle.std.proofs.Math.Bool.{true, false}
use mathlib.Core.List.{List, [], ◌∷◌, map}
use Rattle.std.proofs.Math.Path.{refl, ap₂}
use Rattle.std.proofs.Math.Dec.{ltb}
use borrow.Author.Tests.{ltb-true, ltb-false}
use Rattle.tables.specs.Types.{Numbers, Plan, ReplicaId, Crash, Step, Open, Single, RunOn, Answer, Opened}
use Rattle.tables.specs.Types.{Conduct}
use Rattle.tables.specs.declared.Record.{Record}
use Rattle.model.specs.Limits.{limited, planned}
use Rattle.model.specs.Rack.{apply}
use Rattle.model.specs.Scripts.{Script, Played, play, accepted, single, run_on, conduct}
use Rattle.model.specs.History.{History, beginning, take_step, on_history, follow, run, after, answers}
use Rattle.model.proofs.Playing.{alike}
use Rattle.safety.proofs.Theorems.{safe, counts_agree, never_stuck}
use Rattle.tables.specs.Layout.{Tables}
use Rattle.tables.specs.Calls.{on_tables, stepped, ran_on, conducted, open_rack, called}
use Rattle.tables.specs.Bounds.{bounds}
use Rattle.demand.specs.Lists.{Item, lent, handed, as_lent, played, tables_after, answers_on, Fair, OneRun}
use Rattle.demand.specs.Statement.{Demand3}
use Rattle.demand.specs.Parts.{parts_long, parts_untouched}
use Rattle.demand.specs.Linked.{Linked, none_spoiled, barred_alike, judged}
use Rattle.demand.proofs.Linked.{step_linked}
use Rattle.demand.specs.Openings.{refused_opening}
use Rattle.demand.proofs.Openings.{accepted_opening}
use Rattle.demand.specs.Theorem.{of_nobody, of_the_run, rack_safe, records_count, tables_onward}

module _ (N : Numbers) (limits : limited N ≡ true) (opening : Tables) where
  open N use {n}

  -- the tables go with the history
  abbrev Follows : Tables → History → Type 0
  Follows t h = Linked N opening t h.rack

  -- answered alike, and the tables still go with the history
  abbrev Alike : Played Tables → Played History → Type 0
  Alike o p = (o.answer ≡ p.answer) × Follows o.state p.state

  -- ---- a call

  -- every script, by what its steps come to
  pub script_alike : (strip : List ℕ) (x : Script) (t : Tables) (h : History) → Follows t h
      → Alike (play (on_tables N strip) x t) (play (on_history N strip) x h)
  unfolding take_step
  script_alike strip =
      alike (on_tables N strip) (on_history N strip) Follows (λ a t h link. judged N limits link strip a) (λ a t h link. step_linked N limits link strip a)
      (λ t h link. link.same_view) (λ away good t h link. barred_alike N limits link strip away good)

  abbrev crash : ReplicaId → Step
  crash c = record { who = c; act = Crash }

  -- a crash that is handed one record: of a replica of the run it is the crash step on the tables
  module _ (c : ReplicaId) (k : Record) (t : Tables) (h : History) (link : Follows t h) (fair : Fair N (handed c k) t) where
    abbrev Handed_alike : Type 0
    Handed_alike = Alike (played N (handed c k) t) (follow N (as_lent (handed c k)) h)

    handed_alike : Handed_alike
    unfolding stepped
    handed_alike = go (ltb c.0 n) refl
      where
        go : (b : Bool) → ltb c.0 n ≡ b → Handed_alike
        go true e = rw (of_the_run N limits opening c k t h link fair (ltb-true _ _ e)) (script_alike [] (single (crash c)) t h link)
        go false e = of_nobody N limits opening c k t h link fair (ltb-false _ _ e)

  item_alike : (x : Item) (t : Tables) (h : History) → Follows t h → Fair N x t → Alike (played N x t) (follow N (as_lent x) h)
  unfolding played called stepped ran_on conducted play take_step apply
  item_alike (lent strip (Open q)) t h link (why, e) = let (same, answer) = refused_opening q t strip why e in (answer, rw same link)
  item_alike (lent strip (Single a)) t h link fair = script_alike strip (single a) t h link
  item_alike (lent strip (RunOn c)) t h link fair = script_alike strip (run_on N c) t h link
  item_alike (lent strip Conduct) t h link fair = script_alike strip (conduct N) t h link
  item_alike (handed c k) t h link fair = handed_alike c k t h link fair

  -- ---- a list of calls

  pub list_follows : (items : List Item) (t : Tables) (h : History) → Follows t h → OneRun N items t
      → Follows (tables_after N items t) (run N (map as_lent items) h)
  unfolding tables_after run OneRun
  list_follows [] t h link fair = link
  list_follows (x ∷ items) t h link fair = list_follows items _ _ (item_alike x t h link fair.0).1 fair.1

  same_answers : (items : List Item) (t : Tables) (h : History) → Follows t h → OneRun N items t → answers_on N items t ≡ answers N (map as_lent items) h
  unfolding answers_on answers OneRun
  same_answers [] t h link fair = refl
  same_answers (x ∷ items) t h link fair = let (same, next) = item_alike x t h link fair.0 in
      ap₂ (λ (a : Answer) (l : List Answer). a ∷ l) same (same_answers items _ _ next fair.1)

pub demand_3 : (q : Plan) (t : Tables) (strip : List ℕ) → (open_rack q t strip).answer ≡ Opened (planned q)
    → (items : List Item) → OneRun (planned q) items (open_rack q t strip).tables → Demand3 (planned q) t (open_rack q t strip).tables items
demand_3 q t strip accepted items one_run =
    let N = planned q in
    let (limits, first) = accepted_opening q t strip accepted in
    let last = list_follows N limits t items _ beginning first one_run in
    let fits = (bounds N limits).fits in
    let counts = counts_agree N (map as_lent items) in
    let onward = never_stuck N fits (bounds N limits).phases_some (map as_lent items) in
    record {
      same_answers = same_answers N limits t items _ beginning first one_run;
      same_rack = last.same_view;
      long_enough = parts_long N last.parts;
      room_enough = omega arith;
      unspoiled = none_spoiled N limits last;
      untouched = parts_untouched N last.parts;
      history_safe = safe N fits (map as_lent items);
      tables_safe = rw last.same_view (rack_safe N fits _ last.invariant);
      history_counts = counts;
      tables_counts = records_count N limits last counts;
      history_onward = onward;
      tables_onward = tables_onward N limits last onward;
    }

-- one more call of the run is answered as the history answers it
pub next_answer : (q : Plan) (t : Tables) (strip : List ℕ) → (open_rack q t strip).answer ≡ Opened (planned q)
    → (items : List Item) → OneRun (planned q) items (open_rack q t strip).tables
    → (x : Item) → Fair (planned q) x (tables_after (planned q) items (open_rack q t strip).tables)
    → (played (planned q) x (tables_after (planned q) items (open_rack q t strip).tables)).answer
    ≡ (follow (planned q) (as_lent x) (after (planned q) (map as_lent items))).answer
next_answer q t strip accepted items one_run x fair =
    let N = planned q in
    let (limits, first) = accepted_opening q t strip accepted in
    (item_alike N limits t x _ _ (list_follows N limits t items _ beginning first one_run) fair).0

-- "A run is a list of calls as demand 3 takes it; only an accepted opening starts another": where an opening is accepted behind other calls,
-- all handed any numbers M and no run themselves, demand 3 holds of the run that it starts.
pub run_by_run : (M : Numbers) (before : List Item) (t : Tables) (q : Plan) (strip : List ℕ)
    → let found = tables_after M before t in
    (open_rack q found strip).answer ≡ Opened (planned q)
    → (items : List Item) → OneRun (planned q) items (open_rack q found strip).tables → Demand3 (planned q) found (open_rack q found strip).tables items
run_by_run M before t q strip = demand_3 q (tables_after M before t) strip
