-- How long the report of a step file can be: no record's line has more than 24 bytes, and at the end each controller that the
-- player has tables for has a line of at most 19 bytes and 21 for each slot.
use Prim.Native.Nat.{ℕ, zero, suc, ◌+◌, ◌*◌, ◌≤◌, ◌<◌, zero-le}
use native.Mathlib.Omega.{arith}
use Rattle.std.proofs.Common.{sym}
use Rattle.std.specs.Prelude.{Bool, ◌&&◌, ◌≡◌, ltb, eqb}
use Rattle.std.proofs.Math.Bool.{true, false}
use mathlib.Core.List.{List, ◌++◌}
use Rattle.std.proofs.Math.Path.{subst}
use Rattle.std.proofs.Math.ListN.{length, length-append}
use borrow.Author.Tests.{ltb-false, not-false}
use Rattle.tables.specs.Types.{Numbers, Plan, Refusal, BadPlan, ShortTable, SpoiledRecord, NoSuchReplica, Crashed, BlankTag, AlreadyHeld}
use Rattle.tables.specs.Types.{TagRoomFull, UnknownTag, Busy, LogFull, NothingPending, NotBegun, TooFewHeard, PhasesUsedUp, NoSuchMessage}
use Rattle.tables.specs.Types.{NotSent, AlreadyHeard, UnknownKind, CutRecord, OutOfPlace, Call, Open, Single, RunOn, Answer}
use Rattle.tables.specs.Types.{NotLevel, TooFewRunning, OddLength, Conduct}
use Rattle.model.specs.Answers.{refusal_number}
use Rattle.model.specs.Limits.{most_slots, limited, planned, plan_limited}
use Rattle.model.proofs.Branches.{if-true}
use Rattle.model.proofs.Cases.{clash, if-ind, and_true, or_false, Unmet, unless_ind}
use Rattle.tables.specs.Layout.{Tables}
use Rattle.tables.specs.Bounds.{Bounds, bounds}
use Rattle.tables.specs.Calls.{OpenOutcome, opening_refusals, open_rack, called}
use Rattle.files.specs.Text.{text, decimal}
use Rattle.files.specs.Lines.{opened_line, refused_line, entry_text, entries_text, light, bench_line}
use Rattle.files.specs.Decimal.{digits_most, digits_few}
use Rattle.files.specs.Found.{Found, Option, Ok, Err, None, Some, run_numbers}
use Rattle.files.specs.declared.Player.{Player}
use Rattle.files.specs.Play.{Turn, too_large, opened_by, place_refusals, called_in_place, turned, turn, goes_on, play}
use Rattle.files.specs.Reported.{said_line, line_on, lines}
use Rattle.files.specs.Unopened.{step_answer, run_answer, conduct_answer}

-- ---- the line of a record

refusal_few : (why : Refusal) → refusal_number why < 100
refusal_few BadPlan = omega arith
refusal_few ShortTable = omega arith
refusal_few SpoiledRecord = omega arith
refusal_few NoSuchReplica = omega arith
refusal_few Crashed = omega arith
refusal_few BlankTag = omega arith
refusal_few AlreadyHeld = omega arith
refusal_few TagRoomFull = omega arith
refusal_few UnknownTag = omega arith
refusal_few Busy = omega arith
refusal_few LogFull = omega arith
refusal_few NothingPending = omega arith
refusal_few NotBegun = omega arith
refusal_few TooFewHeard = omega arith
refusal_few PhasesUsedUp = omega arith
refusal_few NoSuchMessage = omega arith
refusal_few NotSent = omega arith
refusal_few AlreadyHeard = omega arith
refusal_few UnknownKind = omega arith
refusal_few CutRecord = omega arith
refusal_few OutOfPlace = omega arith
refusal_few NotLevel = omega arith
refusal_few TooFewRunning = omega arith
refusal_few OddLength = omega arith

opened_short : (N : Numbers) → Bounds N → length (opened_line N) ≤ 24
opened_short N b =
    let a = digits_few 1 20 N.n (omega arith) in
    let g = digits_few 1 20 N.f (omega arith) in
    let c = length-append (decimal N.n) (text " spare " ++ (decimal N.f ++ text "\n")) in
    let d = length-append (decimal N.f) (text "\n") in omega arith

module _ (k : ℕ) (h : k < 100000) where
  abbrev Short : Answer → Type 0
  Short a = length (said_line k (Ok (Some a))) ≤ 24

  refused_short : (why : Refusal) → length (refused_line k why) ≤ 24
  refused_short why =
      let r = refusal_number why in
      let a = digits_few 4 20 k h in
      let b = digits_few 1 20 r (refusal_few why) in
      let c = length-append (decimal k) (text " " ++ (decimal r ++ text "\n")) in
      let d = length-append (decimal r) (text "\n") in omega arith

  opening_short : (q : Plan) (t : Tables) (strip : List ℕ) → Short (open_rack q t strip).answer
  unfolding open_rack said_line Unmet
  opening_short q t strip = unless_ind (λ (o : OpenOutcome). Short o.answer) (opening_refusals q t strip) refused_short
      (λ u. opened_short (planned q) (bounds (planned q) (and_true (limited (planned q)) _ (not-false (plan_limited q) u.0)).0))

  called_short : (N : Numbers) (a : Call) (t : Tables) (strip : List ℕ) → Short (called N a t strip).answer
  unfolding called said_line
  called_short N (Open q) t strip = opening_short q t strip
  called_short N (Single a) t strip = step_answer Short refused_short zero-le (λ _. zero-le) (λ _ _. zero-le) N strip t a
  called_short N (RunOn c) t strip = run_answer Short refused_short zero-le (λ _. zero-le) (λ _ _. zero-le) N strip t c
  called_short N Conduct t strip = conduct_answer Short refused_short zero-le (λ _. zero-le) (λ _ _. zero-le) N strip t

  turn_short : (most : Numbers) (p : Player) (t : Tables) (strip : List ℕ) (next : ℕ) (f : Found)
      → length (said_line k (turned most p t strip next f).said) ≤ 24
  unfolding turned called_in_place said_line
  turn_short most p t strip next (Ok None) = omega arith
  turn_short most p t strip next (Err why) = refused_short why
  turn_short most p t strip next (Ok (Some a)) =
      unless_ind (λ (o : OpenOutcome). Short o.answer) (place_refusals most p a) refused_short (λ _. called_short (run_numbers p.opened) a t strip)

  line_short : (most : Numbers) (file : List ℕ) (x : Turn) → length (line_on k most file x) ≤ 24
  unfolding line_on turn
  line_short most file x = if-ind (λ (v : List ℕ). length v ≤ 24) (goes_on x.said)
      (λ e. subst (λ (y : Turn). length (said_line k y.said) ≤ 24) (sym (if-true _ _ e)) (turn_short most x.player x.tables x.strip _ _))
      (λ _. omega arith)

pub lines_short : (k : ℕ) (most : Numbers) (file : List ℕ) (x : Turn) → k < 100000 → length (lines k most file x) ≤ 24 * k
unfolding lines
lines_short zero most file x h = omega arith
lines_short (suc k) most file x h =
    let y = play k most file x in
    let a = lines_short k most file x (omega arith) in
    let b = line_short (suc k) h most file y in
    let c = length-append (lines k most file x) (line_on (suc k) most file y) in omega arith

-- ---- the lines at the end

entry_short : (x : ℕ) → length (entry_text x) ≤ 21
entry_short x = if-ind (λ (v : List ℕ). length v ≤ 21) (eqb x 0) (λ _. omega arith) (λ _. let h = digits_most 20 x in omega arith)

entries_short : (s : ℕ) (entry : ℕ → ℕ) → length (entries_text s entry) ≤ 21 * s
unfolding entries_text
entries_short zero entry = omega arith
entries_short (suc s) entry =
    let a = entries_short s entry in
    let b = entry_short (entry s) in
    let c = length-append (entries_text s entry) (entry_text (entry s)) in omega arith

light_short : (crashed : Bool) → length (light crashed) ≤ 6
light_short crashed = if-ind (λ (v : List ℕ). length v ≤ 6) crashed (λ _. omega arith) (λ _. omega arith)

-- the most bytes of a replica's line
abbrev pub bench_most : ℕ → ℕ
bench_most slots = 19 + 21 * slots

pub bench_short : (c : ℕ) (crashed : Bool) (slots closed : ℕ) (entry : ℕ → ℕ) → c < 100 → slots ≤ most_slots → closed ≤ slots
    → length (bench_line c crashed closed entry) ≤ bench_most slots
bench_short c crashed slots closed entry h few g =
    let es = entries_text closed entry in
    let a = digits_few 1 20 c h in
    let b = digits_few 3 20 closed (omega arith) in
    let d = light_short crashed in
    let e = entries_short closed entry in
    let e₁ = length-append (decimal c) (light crashed ++ (decimal closed ++ (es ++ text "\n"))) in
    let e₂ = length-append (light crashed) (decimal closed ++ (es ++ text "\n")) in
    let e₃ = length-append (decimal closed) (es ++ text "\n") in
    let e₄ = length-append es (text "\n") in omega arith

-- ---- an opened run is no larger than the player's tables

module _ (most : Numbers) where
  abbrev pub Fit : Option Numbers → Type 0
  Fit None = Unit {0}
  Fit (Some N) = (N.n ≤ most.n) × (N.slots ≤ most.slots)

  module _ (run : Option Numbers) (fit : Fit run) (t : Tables) (strip : List ℕ) where
    -- what an answer leaves
    abbrev pub Stays : Answer → Type 0
    Stays a = Fit (opened_by a run)

    pub opening_fits : (q : Plan) → too_large most (Open q) ≡ false → Stays (open_rack q t strip).answer
    unfolding open_rack Unmet
    opening_fits q small = unless_ind (λ (o : OpenOutcome). Stays o.answer) (opening_refusals q t strip) (λ why. fit)
        (λ u. let N = planned q in
        let larger = told_small (plan_limited q) _ (not-false (plan_limited q) u.0) small in
        let (a, more) = or_false (ltb most.n N.n) _ larger in
        let (b, more₁) = or_false (ltb most.slots N.slots) _ more in
        (ltb-false most.n N.n a, ltb-false most.slots N.slots b))
      where
        told_small : (a b : Bool) → a ≡ true → (a && b) ≡ false → b ≡ false
        told_small true b h e = e
        told_small false b h e = clash h
