-- "A record of a step file counts as the call it makes": until an opening is accepted nothing lent changes, and then what
-- the records leave is what demand 3's list of their calls leaves, so demand 3 holds of it; and what is said of each record
-- is what the run's history answers.
use Prim.Native.Nat.{ℕ, zero, suc}
use Rattle.std.specs.Prelude.{true, ◌≡◌}
use mathlib.Core.List.{List, [], ◌∷◌, ◌++◌, map}
use Rattle.std.proofs.Common.{◌∙◌}
use Rattle.std.proofs.Math.Path.{refl, sym, ap}
use Rattle.tables.specs.Types.{Numbers, Plan, OutOfPlace, Call, Open, Single, RunOn, Conduct}
use Rattle.tables.specs.Types.{Answer, Refused, Done, Ran, Opened, Conducted}
use Rattle.model.specs.Tests.{if}
use Rattle.model.specs.Limits.{planned}
use Rattle.model.specs.History.{History, follow, after}
use Rattle.model.proofs.Branches.{if-true}
use Rattle.model.proofs.Cases.{clash, Unmet, unless_ind}
use Rattle.tables.specs.Layout.{Tables}
use Rattle.tables.specs.Calls.{OpenOutcome, opening_refusals, open_rack, called}
use Rattle.demand.specs.Lists.{Item, lent, as_lent, played, tables_after, Fair, OneRun}
use Rattle.demand.specs.Statement.{Demand3}
use Rattle.files.specs.Found.{Found, Said, Ok, Err, None, Some, is_opened}
use Rattle.files.specs.Format.{file_record}
use Rattle.files.specs.declared.Player.{Player}
use Rattle.files.specs.Play.{Turn, moved_on, out_of_place, place_refusals, called_in_place, answered, turned, turn, goes_on, play, begun}
use Rattle.files.specs.Reported.{said_line, line_on, fresh}

-- the calls with the one that a record makes of an opened run: an opening is out of place and makes none
abbrev pub with_made : List ℕ → List Item → Found → List Item
with_made strip items (Ok None) = items
with_made strip items (Err why) = items
with_made strip items (Ok (Some (Open q))) = items
with_made strip items (Ok (Some (Single a))) = items ++ (lent strip (Single a) ∷ [])
with_made strip items (Ok (Some (RunOn c))) = items ++ (lent strip (RunOn c) ∷ [])
with_made strip items (Ok (Some Conduct)) = items ++ (lent strip Conduct ∷ [])

-- the calls that a player has made since the accepted opening, after so many records
unfoldable pub calls_made : ℕ → Numbers → List ℕ → Turn → List Item
calls_made zero most file x = []
calls_made (suc k) most file x = let y = play k most file x in
    if (goes_on y.said) (if (is_opened y.player.opened) (with_made y.strip (calls_made k most file x) (file_record file y.player.at).found) [])
    (calls_made k most file x)

-- what is said of a record of an opened run: the answer of its history to the call that the record makes, with the strip
-- lent to it; 19, 20, and 21 of an opening, need no history
abbrev pub history_says : Numbers → History → List ℕ → Found → Said
history_says N h strip (Ok None) = Ok None
history_says N h strip (Err why) = Err why
history_says N h strip (Ok (Some (Open q))) = Ok (Some (Refused OutOfPlace))
history_says N h strip (Ok (Some (Single a))) = Ok (Some (follow N (record { strip = strip; call = Single a }) h).answer)
history_says N h strip (Ok (Some (RunOn c))) = Ok (Some (follow N (record { strip = strip; call = RunOn c }) h).answer)
history_says N h strip (Ok (Some Conduct)) = Ok (Some (follow N (record { strip = strip; call = Conduct }) h).answer)

-- an opened run, and what is lent to it now
pub record Running (N : Numbers) (t : Tables) (strip : List ℕ) (x : Turn) (items : List Item) : Type 0 where
  pub opened : x.player.opened ≡ Some N
  pub tables : x.tables ≡ tables_after N items t
  pub strip_kept : x.strip ≡ strip
  pub one_run : OneRun N items t

-- ---- a list and one more

module _ (N : Numbers) where
  pub after_more : (xs : List Item) (y : Item) (t : Tables) → tables_after N (xs ++ (y ∷ [])) t ≡ (played N y (tables_after N xs t)).state
  unfolding tables_after
  after_more [] y t = refl
  after_more (x ∷ xs) y t = after_more xs y _

  pub run_more : (xs : List Item) (y : Item) (t : Tables) → OneRun N xs t → Fair N y (tables_after N xs t) → OneRun N (xs ++ (y ∷ [])) t
  unfolding tables_after OneRun
  run_more [] y t a b = (b, tt)
  run_more (x ∷ xs) y t a b = (a.0, run_more xs y _ a.1 b)

-- ---- a record of an opened run

-- it stays open
pub still_open : (p : Player) (next : ℕ) (a : Answer) → is_opened p.opened ≡ true → is_opened (moved_on p next a).opened ≡ true
still_open p next (Refused why) h = h
still_open p next Done h = h
still_open p next (Ran k) h = h
still_open p next (Opened N) h = refl
still_open p next (Conducted k m) h = h

module _ (most : Numbers) (file : List ℕ) (N : Numbers) (t : Tables) (strip : List ℕ) where
  module _ (x : Turn) (items : List Item) (r : Running N t strip x items) (next : ℕ) where
    abbrev pub After : Found → Type 0
    After f = Running N t strip (turned most x.player x.tables x.strip next f) (with_made x.strip items f)

    -- an opening is out of place there
    pub makes_none : (q : Plan) → After (Ok (Some (Open q)))
    unfolding turned called_in_place Unmet
    makes_none q = unless_ind (λ o. Running N t strip (answered x.player next o) items) (place_refusals most x.player (Open q))
        (λ why. record { opened = r.opened; tables = r.tables; strip_kept = r.strip_kept; one_run = r.one_run })
        (λ u. clash (sym u.0 ∙ ap is_opened r.opened))

-- ---- what is said of it

module _ (most : Numbers) (t : Tables) (strip : List ℕ) (q : Plan) (ok : (open_rack q t strip).answer ≡ Opened (planned q)) (x : Turn) (items : List Item)
    (r : Running (planned q) (open_rack q t strip).tables (open_rack q t strip).strip x items) (next : ℕ) where
  abbrev h : History
  h = after (planned q) (map as_lent items)

-- ---- from the first record on

module _ (most : Numbers) (file : List ℕ) (t : Tables) (strip : List ℕ) where
  -- the record that opened the run: so many stand before it, none of which did
  pub record Opening (q : Plan) : Type 0 where
    pub before : ℕ
    pub waited : (play before most file (begun fresh t strip)).player.opened ≡ None
    pub reads : (file_record file (play before most file (begun fresh t strip)).player.at).found ≡ Ok (Some (Open q))
    pub opens : (play (suc before) most file (begun fresh t strip)).said ≡ Ok (Some (Opened (planned q)))

  -- a record that opens a run is its opening
  abbrev ByRecord : Found → Turn → Type 0
  ByRecord f x = (q : Plan) → f ≡ Ok (Some (Open q)) → x.said ≡ Ok (Some (Opened (planned q))) → Opening q

  -- no opening was accepted yet, and everything lent is as it was; or one was, and its run goes on
  pub data Stage (x : Turn) (items : List Item) : Type 0 where
    waiting : x.player.opened ≡ None → x.tables ≡ t → x.strip ≡ strip → items ≡ [] → Stage x items
    running : (q : Plan) → Opening q → (open_rack q t strip).answer ≡ Opened (planned q)
        → Running (planned q) (open_rack q t strip).tables (open_rack q t strip).strip x items → Stage x items

  module _ (p : Player) (shut : p.opened ≡ None) (next : ℕ) where
    abbrev pub Next : Found → Type 0
    Next f = ByRecord f (turned most p t strip next f) → Stage (turned most p t strip next f) []

    -- a step before an accepted opening
    pub too_early : (a : Call) → out_of_place (is_opened p.opened) a ≡ true → Next (Ok (Some a))
    unfolding turned called_in_place Unmet
    too_early a h _ = unless_ind (λ o. Stage (answered p next o) []) (place_refusals most p a) (λ why. waiting shut refl refl refl)
        (λ u. clash (sym u.0 ∙ h))

    -- an opening that is accepted starts its run
    abbrev pub Tries : Plan → OpenOutcome → Type 0
    Tries q o = ((answered p next o).said ≡ Ok (Some (Opened (planned q))) → Opening q) → Stage (answered p next o) []

    pub opens : (q : Plan) → Tries q (open_rack q t strip)
    unfolding open_rack tables_after OneRun
    opens q = unless_ind (λ o. open_rack q t strip ≡ o → Tries q o) (opening_refusals q t strip) (λ why _ _. waiting shut refl refl refl)
        (λ _ g by-record. running q (by-record refl) (ap (λ (o : OpenOutcome). o.answer) g) (record {
          opened = refl;
          tables = sym (ap (λ (o : OpenOutcome). o.tables) g);
          strip_kept = sym (ap (λ (o : OpenOutcome). o.strip) g);
          one_run = tt;
        })) refl

    pub tries : (q : Plan) → Next (Ok (Some (Open q)))
    unfolding turned called_in_place called
    tries q by-record = unless_ind (Tries q) (place_refusals most p (Open q)) (λ why _. waiting shut refl refl refl) (λ _. opens q) (by-record q refl)

  -- the accepted opening of the file, demand 3 of the calls that the records behind it make, and what is said of the next
  -- record by the run's history
  pub record SafeSession (q : Plan) (x : Turn) (items : List Item) : Type 0 where
    pub opening : Opening q
    pub accepted : (open_rack q t strip).answer ≡ Opened (planned q)
    pub opened : x.player.opened ≡ Some (planned q)
    pub strip_kept : x.strip ≡ (open_rack q t strip).strip
    pub demand : Demand3 (planned q) t (open_rack q t strip).tables items
    pub tables : x.tables ≡ tables_after (planned q) items (open_rack q t strip).tables
    pub next_said : (turn most file x.player x.tables x.strip).said
        ≡ history_says (planned q) (after (planned q) (map as_lent items)) x.strip (file_record file x.player.at).found

  -- the next record's line in the report of an opened run: `refused K R` where its history refuses, and else none
  pub line_by_history : (k : ℕ) (x : Turn) (q : Plan) (items : List Item) → SafeSession q x items → goes_on x.said ≡ true
      → line_on k most file x
      ≡ said_line k (history_says (planned q) (after (planned q) (map as_lent items)) x.strip (file_record file x.player.at).found)
  unfolding line_on
  line_by_history k x q items s more =
      if-true _ _ more ∙ ap (λ (y : Turn). said_line k y.said) (if-true _ _ more) ∙ ap (said_line k) s.next_said
