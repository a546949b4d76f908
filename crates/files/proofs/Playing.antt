-- "A record of a step file counts as the call it makes": until an opening is accepted nothing lent changes, and then what
-- the records leave is what demand 3's list of their calls leaves, so demand 3 holds of it; and what is said of each record
-- is what the run's history answers.
use Prim.Native.Nat.{ℕ, zero, suc}
use Rattle.std.specs.Prelude.{Bool, true, false, ◌⊎◌, ◌≡◌}
use Rattle.std.proofs.Math.Bool.{not}
use mathlib.Core.List.{List, [], ◌∷◌, ◌++◌, map}
use Rattle.std.proofs.Common.{inl, inr, ◌∙◌, subst, subst₂}
use Rattle.std.proofs.Math.Path.{refl, sym, ap}
use Rattle.tables.specs.Types.{Numbers, Plan, Call, Open, Single, RunOn, Conduct}
use Rattle.tables.specs.Types.{Answer, Opened}
use Rattle.model.specs.Tests.{if}
use Rattle.model.specs.Limits.{planned}
use Rattle.model.specs.History.{History, follow, after}
use Rattle.model.proofs.Branches.{if-true, if-false}
use Rattle.model.proofs.Cases.{clash}
use Rattle.tables.specs.Bounds.{bounds, is_long}
use Rattle.tables.specs.Sound.{Sound}
use Rattle.tables.specs.Layout.{Tables}
use Rattle.tables.specs.Calls.{OpenOutcome, open_rack, called}
use Rattle.demand.specs.Lists.{Item, lent, as_lent, played, tables_after, Fair}
use Rattle.demand.proofs.Openings.{accepted_opening}
use Rattle.demand.proofs.Theorem.{demand_3, next_answer}
use Rattle.files.specs.Found.{Found, Option, Ok, Err, None, Some, is_opened, run_numbers}
use Rattle.files.specs.declared.Read.{Read}
use Rattle.files.specs.Format.{file_record}
use Rattle.files.specs.declared.Player.{Player}
use Rattle.files.specs.Play.{Turn, out_of_place, too_large, opened_by, called_in_place, turned, turn, goes_on, play, begun}
use Rattle.files.specs.PlayLaws.{on_misplaced, on_call}
use Rattle.files.specs.Reported.{fresh}
use Rattle.files.specs.Unopened.{step_answer, run_answer, conduct_answer}
use Rattle.files.specs.Played.{Opening, Running, SafeSession, Stage, after_more, calls_made, history_says, makes_none, run_more, running}
use Rattle.files.specs.Played.{too_early, tries, waiting, with_made}

module _ (most : Numbers) (file : List ℕ) (N : Numbers) (t : Tables) (strip : List ℕ) where
  -- the outcome of a call that is in place
  in_place : (p : Player) (a : Call) (u : Tables) (st : List ℕ) → out_of_place (is_opened p.opened) a ≡ false → too_large most a ≡ false
      → run_numbers p.opened ≡ N
      → called_in_place most p a u st ≡ called N a u st
  in_place p a u st h l e = sym (on_call most p a u st h l refl) ∙ ap (λ (N : Numbers). called N a u st) e

  module _ (x : Turn) (items : List Item) (r : Running N t strip x items) (next : ℕ) where
    abbrev After : Found → Type 0
    After f = Running N t strip (turned most x.player x.tables x.strip next f) (with_made x.strip items f)

    -- an accepted step or run on opens nothing
    abbrev Same_run : Answer → Type 0
    Same_run a = opened_by a x.player.opened ≡ x.player.opened

    -- a call of the run
    makes_call : (a : Call) → out_of_place true a ≡ false → too_large most a ≡ false → Fair N (lent x.strip a) (tables_after N items t)
        → (called N a x.tables x.strip).strip ≡ x.strip → Same_run (called N a x.tables x.strip).answer
        → Running N t strip (turned most x.player x.tables x.strip next (Ok (Some a))) (items ++ (lent x.strip a ∷ []))
    unfolding turned played
    makes_call a in-time small fair kept same =
        let placed = ap (λ (run : Option Numbers). out_of_place (is_opened run) a) r.opened ∙ in-time in
        rw (in_place x.player a x.tables x.strip placed small (ap run_numbers r.opened)) (record {
          opened = same ∙ r.opened;
          tables = ap (λ (u : Tables). (called N a u x.strip).tables) r.tables ∙ sym (after_more N items (lent x.strip a) t);
          strip_kept = kept ∙ r.strip_kept;
          one_run = run_more N items _ t r.one_run fair;
        })

    makes : (f : Found) → After f
    unfolding turned called
    makes (Ok None) = record { opened = r.opened; tables = r.tables; strip_kept = r.strip_kept; one_run = r.one_run }
    makes (Err why) = record { opened = r.opened; tables = r.tables; strip_kept = r.strip_kept; one_run = r.one_run }
    makes (Ok (Some (Open q))) = makes_none most file N t strip x items r next q
    makes (Ok (Some (Single a))) =
        makes_call (Single a) refl refl tt refl (step_answer Same_run (λ why. refl) refl (λ k. refl) (λ k m. refl) N x.strip x.tables a)
    makes (Ok (Some (RunOn c))) =
        makes_call (RunOn c) refl refl tt refl (run_answer Same_run (λ why. refl) refl (λ k. refl) (λ k m. refl) N x.strip x.tables c)
    makes (Ok (Some Conduct)) =
        makes_call Conduct refl refl tt refl (conduct_answer Same_run (λ why. refl) refl (λ k. refl) (λ k m. refl) N x.strip x.tables)

-- ---- what is said of it

module _ (most : Numbers) (t : Tables) (strip : List ℕ) (q : Plan) (ok : (open_rack q t strip).answer ≡ Opened (planned q)) (x : Turn) (items : List Item)
    (r : Running (planned q) (open_rack q t strip).tables (open_rack q t strip).strip x items) (next : ℕ) where
  abbrev h : History
  h = after (planned q) (map as_lent items)

  -- the call of a record, on the tables as the calls before it left them
  says_call : (a : Call) → out_of_place true a ≡ false → too_large most a ≡ false
      → Fair (planned q) (lent x.strip a) (tables_after (planned q) items (open_rack q t strip).tables)
      → (called_in_place most x.player a x.tables x.strip).answer ≡ (follow (planned q) (as_lent (lent x.strip a)) h).answer
  unfolding played
  says_call a in-time small fair =
      let placed = ap (λ (run : Option Numbers). out_of_place (is_opened run) a) r.opened ∙ in-time in
      ap (λ (o : OpenOutcome). o.answer) (in_place most [] (planned q) t strip x.player a x.tables x.strip placed small (ap run_numbers r.opened))
      ∙ ap (λ (u : Tables). (called (planned q) a u x.strip).answer) r.tables ∙ next_answer q t strip ok items r.one_run (lent x.strip a) fair

  says : (f : Found) → (turned most x.player x.tables x.strip next f).said ≡ history_says (planned q) h x.strip f
  unfolding turned
  says (Ok None) = refl
  says (Err why) = refl
  says (Ok (Some (Open p))) = sym (ap (λ (o : OpenOutcome). Ok (Some o.answer)) (on_misplaced most x.player (Open p) x.tables x.strip (ap is_opened r.opened)))
  says (Ok (Some (Single a))) = ap (λ (a : Answer). Ok (Some a)) (says_call (Single a) refl refl tt)
  says (Ok (Some (RunOn c))) = ap (λ (a : Answer). Ok (Some a)) (says_call (RunOn c) refl refl tt)
  says (Ok (Some Conduct)) = ap (λ (a : Answer). Ok (Some a)) (says_call Conduct refl refl tt)

-- ---- from the first record on

module _ (most : Numbers) (file : List ℕ) (t : Tables) (strip : List ℕ) where
  -- a record that opens a run is its opening
  abbrev ByRecord : Found → Turn → Type 0
  ByRecord f x = (q : Plan) → f ≡ Ok (Some (Open q)) → x.said ≡ Ok (Some (Opened (planned q))) → Opening most file t strip q

  module _ (p : Player) (shut : p.opened ≡ None) (next : ℕ) where
    abbrev Next : Found → Type 0
    Next f = ByRecord f (turned most p t strip next f) → Stage most file t strip (turned most p t strip next f) []

    closed : not (is_opened p.opened) ≡ true
    closed = ap (λ (run : Option Numbers). not (is_opened run)) shut

    starts : (f : Found) → Next f
    unfolding turned
    starts (Ok None) _ = waiting shut refl refl refl
    starts (Err why) _ = waiting shut refl refl refl
    starts (Ok (Some (Open q))) by-record = tries most file t strip p shut next q by-record
    starts (Ok (Some (Single a))) by-record = too_early most file t strip p shut next (Single a) closed by-record
    starts (Ok (Some (RunOn c))) by-record = too_early most file t strip p shut next (RunOn c) closed by-record
    starts (Ok (Some Conduct)) by-record = too_early most file t strip p shut next Conduct closed by-record

  one_turn : (y : Turn) (items : List Item) (next : ℕ) (f : Found) → Stage most file t strip y items
      → (y.player.opened ≡ None → ByRecord f (turned most y.player y.tables y.strip next f))
      → Stage most file t strip (turned most y.player y.tables y.strip next f) (if (is_opened y.player.opened) (with_made y.strip items f) [])
  one_turn y items next f (waiting shut e g n) by-record =
      subst (Stage most file t strip _) (sym (if-false _ _ (ap is_opened shut))) (subst (λ (u : Tables). Tried u y.strip) (sym e)
      (subst (λ (st : List ℕ). Tried t st) (sym g) (starts y.player shut next f)) (by-record shut))
    where
      -- what `starts` shows, of what is lent
      Tried : Tables → List ℕ → Type 0
      Tried u st = ByRecord f (turned most y.player u st next f) → Stage most file t strip (turned most y.player u st next f) []
  one_turn y items next f (running q by ok r) by-record =
      let o = open_rack q t strip in
      subst (Stage most file t strip _) (sym (if-true _ _ (ap is_opened r.opened)))
      (running q by ok (makes most file (planned q) o.tables o.strip y items r next f))

  pub stages : (k : ℕ) → let x = begun fresh t strip in Stage most file t strip (play k most file x) (calls_made k most file x)
  unfolding play calls_made turn if
  stages zero = waiting refl refl refl refl
  stages (suc k) = go (goes_on y.said) refl (stages k)
    where
      y : Turn
      y = play k most file (begun fresh t strip)

      items : List Item
      items = calls_made k most file (begun fresh t strip)

      found : Read
      found = file_record file y.player.at

      go : (b : Bool) → goes_on y.said ≡ b → Stage most file t strip y items
          → Stage most file t strip (if b (turned most y.player y.tables y.strip found.next found.found) y)
          (if b (if (is_opened y.player.opened) (with_made y.strip items found.found) []) items)
      go true e r = one_turn y items found.next found.found r
          (λ shut q reads said. record { before = k; waited = shut; reads = reads; opens = ap (λ (x : Turn). x.said) (if-true _ _ e) ∙ said })
      go false e r = r

  safe_session : (q : Plan) (x : Turn) (items : List Item) → Opening most file t strip q → (ok : (open_rack q t strip).answer ≡ Opened (planned q))
      → Running (planned q) (open_rack q t strip).tables (open_rack q t strip).strip x items → SafeSession most file t strip q x items
  unfolding turn
  safe_session q x items by ok r = record {
    opening = by;
    accepted = ok;
    opened = r.opened;
    strip_kept = r.strip_kept;
    demand = demand_3 q t strip ok items r.one_run;
    tables = r.tables;
    next_said = let found = file_record file x.player.at in says most t strip q ok x items r found.next found.found;
  }

  pub demand_3_played : (k : ℕ) → let x = play k most file (begun fresh t strip) in
      ((x.player.opened ≡ None) × (x.tables ≡ t) × (x.strip ≡ strip))
      ⊎ ((q : Plan) × SafeSession most file t strip q x (calls_made k most file (begun fresh t strip)))
  demand_3_played k = go (stages k)
    where
      go : {x : Turn} {items : List Item} → Stage most file t strip x items
          → ((x.player.opened ≡ None) × (x.tables ≡ t) × (x.strip ≡ strip)) ⊎ ((q : Plan) × SafeSession most file t strip q x items)
      go (waiting a b c d) = inl (a, b, c)
      go (running q by ok r) = inr (q, safe_session q _ _ by ok r)

  -- the numbers of an opened run are within the limits, and its memories are long enough and not spoiled
  pub opened_sound : (k : ℕ) (N : Numbers) → let x = play k most file (begun fresh t strip) in x.player.opened ≡ Some N → Sound N x.tables
  opened_sound k N = go (stages k)
    where
      go : {x : Turn} {items : List Item} {N : Numbers} → Stage most file t strip x items → x.player.opened ≡ Some N → Sound N x.tables
      go (waiting shut b c d) h = clash (ap is_opened (sym shut ∙ h))
      go {items = items} (running q by ok r) h =
          let d = demand_3 q t strip ok items r.one_run in
          subst₂ (λ (N : Numbers) (u : Tables). Sound N u) (ap run_numbers (sym r.opened ∙ h)) (sym r.tables) (record {
            within = bounds (planned q) (accepted_opening q t strip ok).0;
            known = d.room_enough;
            unspoiled = d.unspoiled;
            long = is_long (planned q) _ d.long_enough;
          })
