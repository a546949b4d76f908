-- What is known of a record that is not spoiled, and of memories where refusals 3 and 2 of a step are not met.
use Rattle.std.specs.Prelude.{ℕ, ◌≤◌, ◌<◌, Bool, true, false, ◌&&◌, List, ◌≡◌, leb, ltb, length}
use Rattle.std.proofs.Common.{zero-le, ◌∙◌, ap, subst}
use native.Mathlib.Omega.{arith}
use Rattle.std.proofs.Math.Bool.{not}
use Rattle.std.proofs.Math.Path.{refl, sym}
use borrow.Author.Tests.{ltb-true, ltb-false, leb-false, le-leb, le-ltb, lt-ltb, not-false}
use Rattle.tables.specs.Types.{Numbers, Round, Idle, Exchange, State, Vote, Find, States, Votes, Notices, Step, Record}
use Rattle.model.specs.Tests.{if}
use Rattle.model.specs.Limits.{limited}
use Rattle.model.specs.Rack.{round_number, round_in, same_round, is_sent, Replica}
use Rattle.model.specs.Rules.{is_crash, phase_in, seen, notice}
use Rattle.model.proofs.Branches.{if-true}
use Rattle.model.proofs.Cases.{clash, or_false, or_none, if-ind, Unmet}
use Rattle.model.proofs.Counting.{any_false}
use Rattle.model.proofs.FirstSent.{first_found}
use Rattle.tables.specs.Layout.{Tables, known_in, record_end, record_at}
use Rattle.tables.specs.View.{only, replica_at, view}
use Rattle.tables.specs.Checks.{lengths, misplaced, astray, overcounted, spoiled, spoiled_at, any_spoiled, tables_refusals, record_refusals}
use Rattle.tables.specs.Addresses.{guarded_sent}
use Rattle.tables.specs.Bounds.{Bounds, bounds, within_limits, Long, is_long, long_enough}
use Rattle.tables.specs.Calls.{lent_refusals}

-- ---- a round, slot and phase that go together

module _ (N : Numbers) (s p : ℕ) where
  open N use {slots}

  -- in a round its slot has a row
  pub in_slot : (a : Round) → same_round a Idle ≡ false → misplaced N a s p ≡ false → s < slots
  unfolding misplaced
  in_slot Idle busy e = clash (sym busy)
  in_slot Exchange busy e = leb-false _ _ e
  in_slot State busy e = leb-false _ _ (or_false (leb slots s) _ e).0
  in_slot Vote busy e = leb-false _ _ (or_false (leb slots s) _ e).0
  in_slot Find busy e = leb-false _ _ e

  -- idle or not, no more slots are closed than there are
  pub closed_few : (a : Round) → misplaced N a s p ≡ false → s ≤ slots
  unfolding misplaced
  closed_few Idle e = ltb-false _ _ e
  closed_few Exchange e = let h = in_slot Exchange refl e in omega arith
  closed_few State e = let h = in_slot State refl e in omega arith
  closed_few Vote e = let h = in_slot Vote refl e in omega arith
  closed_few Find e = let h = in_slot Find refl e in omega arith

  -- in the state and the vote round its phase is one of the run
  pub in_state : misplaced N State s p ≡ false → phase_in N States p ≡ true
  unfolding misplaced
  in_state e = not-false _ (or_false (leb slots s) _ e).1

  pub in_vote : misplaced N Vote s p ≡ false → phase_in N Votes p ≡ true
  unfolding misplaced
  in_vote e = not-false _ (or_false (leb slots s) _ e).1

-- the number of a round is one of the five
pub round_low : (a : Round) → round_number a ≤ 4
round_low Idle = omega arith
round_low Exchange = omega arith
round_low State = omega arith
round_low Vote = omega arith
round_low Find = omega arith

-- ---- counts

-- neither count exceeds the closed slots
abbrev pub CountsFit : Record → Type 0
CountsFit k = (k.empty ≤ k.slot) × (k.fast ≤ k.slot)

pub counts_low : (k : Record) → CountsFit k → overcounted k ≡ false
unfolding overcounted
counts_low k fit = or_none _ _ (le-ltb _ _ fit.0) (le-ltb _ _ fit.1)

-- ---- records that are not spoiled

module _ (N : Numbers) (k : Record) (fine : spoiled N k ≡ false) where
  pub fine_stands : misplaced N (round_in k.round) k.slot k.phase ≡ false
  unfolding spoiled astray
  fine_stands = (or_false (ltb 4 k.round) _ (or_false (astray N k) _ fine).0).1

  pub fine_counts : CountsFit k
  unfolding spoiled overcounted
  fine_counts = let (e, f) = or_false (ltb k.slot k.empty) _ (or_false (astray N k) _ fine).1 in
      (ltb-false _ _ e, ltb-false _ _ f)

-- ---- memories that passed

module _ (N : Numbers) where
  open N use {n, room}

  -- where no record is spoiled, one that is there is not, and its round, slot and phase go together
  module _ (ws : List ℕ) {c : ℕ} (there : c < n) (long : record_end c ≤ length ws) (e : any_spoiled N ws ≡ false) where
    pub unspoiled_there : spoiled N (record_at ws c) ≡ false
    unfolding any_spoiled
    unspoiled_there = sym (ap (λ (b : Bool). b && spoiled N (record_at ws c)) (le-leb _ _ long)) ∙ any_false n (spoiled_at N ws) e c there

    pub unspoiled_stands : let k = record_at ws c in misplaced N (round_in k.round) k.slot k.phase ≡ false
    unspoiled_stands = fine_stands N _ unspoiled_there

  pub record Sound (t : Tables) : Type 0 where
    pub within : Bounds N
    pub known : known_in t.words ≤ room
    pub unspoiled : any_spoiled N t.words ≡ false
    pub long : Long N (lengths t)

  -- of every step but a crash
  pub sound : (t : Tables) → Unmet (tables_refusals N t) → Sound t
  unfolding Unmet
  sound t (spoiled, (short, _)) =
      let (limits, rest) = or_false (not (limited N)) _ spoiled in
      let (many, any) = or_false (ltb room (known_in t.words)) _ rest in
      record { within = bounds N (not-false _ limits); known = ltb-false _ _ many; unspoiled = any; long = is_long N (lengths t) (not-false _ short) }

  -- and back: memories that pass
  pub sound_unmet : {t : Tables} → Sound t → Unmet (tables_refusals N t)
  unfolding Unmet
  sound_unmet {t} fine = (
    or_none _ _ (ap not (within_limits N fine.within)) (or_none _ _ (le-ltb _ _ fine.known) fine.unspoiled),
    (ap not (long_enough N (lengths t) fine.long), tt),
  )

  pub lent_sound : (a : Step) (t : Tables) → is_crash a.act ≡ false → Unmet (lent_refusals N a t) → Sound t
  unfolding if
  lent_sound a t e u = sound t (subst (λ (b : Bool). Unmet (if b (record_refusals N t a.who.0) (tables_refusals N t))) e u)

  -- ---- the replica that acts, as its record is there

  module _ {t : Tables} (fine : Sound t) {c : ℕ} (there : c < n) where
    pub record_there : record_end c ≤ length t.words
    record_there = let l = fine.long.words in omega arith

    pub own_unspoiled : spoiled N (record_at t.words c) ≡ false
    own_unspoiled = unspoiled_there t.words there record_there fine.unspoiled

    -- its round, slot and phase go together
    pub stands : let k = record_at t.words c in misplaced N (round_in k.round) k.slot k.phase ≡ false
    stands = unspoiled_stands t.words there record_there fine.unspoiled

  -- a replica of the run is what the memories say of it
  pub own_view : (t : Tables) {c : ℕ} → c < n → (view N t).at c ≡ replica_at N t c
  unfolding only
  own_view t {c} there = if-true _ _ (lt-ltb c n there)

  -- no replica has closed more slots than there are
  pub slots_few : {t : Tables} → Sound t → (c : ℕ) → ((view N t).at c).closed ≤ N.slots
  unfolding only
  slots_few {t} fine c = let k = record_at t.words c in
      if-ind (λ (r : Replica). r.closed ≤ N.slots) (ltb c n)
      (λ h. closed_few N k.slot k.phase (round_in k.round) (stands fine (ltb-true c n h))) (λ _. zero-le)

  -- the round that the view has it in, with its slot and phase
  module _ {t : Tables} (fine : Sound t) {c : ℕ} (there : c < n) where
    pub seen_stands : (a : Round) → ((view N t).at c).round ≡ a → let k = record_at t.words c in misplaced N a k.slot k.phase ≡ false
    seen_stands a q = let k = record_at t.words c in
        subst (λ (b : Round). misplaced N b k.slot k.phase ≡ false) (ap (λ (x : Replica). x.round) (sym (own_view t there)) ∙ q) (stands fine there)

    -- in a round its slot is one of the run
    pub seen_low : (a : Round) → same_round a Idle ≡ false → ((view N t).at c).round ≡ a → (record_at t.words c).slot < N.slots
    seen_low a busy q = in_slot N _ _ a busy (seen_stands a q)

  -- a heard notice is of a slot that is open
  pub noticed_low : (t : Tables) {c : ℕ} → c < n → is_sent (notice N ((view N t).at c)) ≡ true → (record_at t.words c).slot < N.slots
  noticed_low t {c} there h =
      let heard = subst (λ (k : Replica). is_sent (notice N k) ≡ true) (own_view t there) h in
      let found = first_found (seen (replica_at N t c) Notices 0) 0 n heard in
      (guarded_sent N _ (ap is_sent (sym found.says) ∙ heard)).slot
