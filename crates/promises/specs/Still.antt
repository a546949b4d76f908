-- An accepted step other than a crash leaves memories that pass refusals 3 and 2 again, and every replica as running as it was; so
-- does every list of steps that has no crash.
use Rattle.std.specs.Prelude.{ℕ, zero, suc, ◌≤◌, ◌<◌, ◌^◌, Bool, ◌||◌, List, [], ◌∷◌, ◌++◌, ◌⊎◌, ◌≡◌, leb, length, take, set as store_at}
use Rattle.std.proofs.Common.{arith, inl, inr, ⊎_elim, sym, ◌∙◌, ap₂, length-set, get_or-set_same, length-take-le}
use Rattle.std.proofs.Math.Decide.{ℕ_discrete}
use Rattle.std.proofs.Math.Bool.{true, false, not}
use Rattle.std.proofs.Math.Path.{refl, ap, subst}
use Rattle.std.proofs.lemmas.Bool.{lt-leb}
use Rattle.tables.specs.declared.Record.{Record}
use Rattle.tables.specs.Types.{Numbers, Round, Idle, Exchange, State, Vote, Find, Sort, Proposals, States, Votes, Notices, Effect, Act, Step}
use Rattle.model.specs.Tests.{listed}
use Rattle.model.specs.Rack.{same_round, round_of, tag_of, Replica}
use Rattle.model.specs.Rules.{is_crash, majority_tag, notice, phase_in}
use Rattle.model.specs.Conductor.{for_each}
use Rattle.model.specs.Scripts.{play, accepted}
use Rattle.model.proofs.Cases.{clash, and_none, if-ind, unless_ind, unmet_both}
use Rattle.model.proofs.Counting.{any_nowhere}
use Rattle.safety.specs.Comes.{ByRule, by_submit, by_relay, by_begin, by_hear, by_notice, by_exchange, by_state}
use Rattle.safety.specs.Comes.{by_outcome_0, by_outcome_1, by_seek, by_next_phase, by_find, by_crash}
use Rattle.safety.proofs.Comes.{past}
use Rattle.tables.specs.Layout.{Tables, known_cell, known_in, record_end, record_at, record_stored, holders_base, holder_cell, heard_cell}
use Rattle.tables.specs.View.{view}
use Rattle.tables.specs.Records.{same_record}
use Rattle.tables.proofs.Records.{other_record}
use Rattle.tables.specs.Sections.{elsewhere, record_elsewhere, record_agrees}
use Rattle.tables.specs.Write.{moved, shut, with_change, words_held, words_sent, words_closed, write}
use Rattle.tables.specs.Checks.{lengths, misplaced, spoiled, any_spoiled}
use Rattle.tables.specs.Calls.{lent_refusals, judge, performed, stepped}
use Rattle.tables.specs.Bounds.{Long}
use Rattle.tables.specs.Addresses.{state_in}
use Rattle.tables.specs.Sound.{Sound, lent_sound, record_there, own_unspoiled, stands, own_view, seen_low, noticed_low}
use Rattle.tables.proofs.Sound.{moved_fine, shut_fine, own_counts}
use Rattle.promises.specs.Order.{step_refusals}
use Rattle.promises.specs.Kept.{step_lengths_kept}

-- what an accepted step other than a crash leaves: memories that pass refusals 3 and 2 again, and every replica as running as
-- it was
pub record StillFine (N : Numbers) (t u : Tables) : Type 0 where
  pub fine : Sound N u
  pub alike : (d : ℕ) → d < N.n → (record_at u.words d).crashed ≡ (record_at t.words d).crashed

-- ---- words that a step may leave

-- a record that is not spoiled, and as running as another
abbrev Fit : Numbers → Record → Record → Type 0
Fit N was k = (spoiled N k ≡ false) × (k.crashed ≡ was.crashed)

-- words with no more known tags than room, in which every record is fit
record Steady (N : Numbers) (ws l : List ℕ) : Type 0 where
  pub known : known_in l ≤ N.room
  pub fit : (d : ℕ) → d < N.n → Fit N (record_at ws d) (record_at l d)

-- memories as long as before whose words are steady are fine again
still : (N : Numbers) {t u : Tables} → Sound N t → lengths u ≡ lengths t → Steady N t.words u.words → StillFine N t u
unfolding any_spoiled
still N {t} {u} fine same steady = record {
  fine = record {
    within = fine.within;
    known = steady.known;
    unspoiled = any_nowhere N.n _ (λ d h. and_none (leb (record_end d) (length u.words)) _ (steady.fit d h).0);
    long = subst (Long N) (sym same) fine.long;
  };
  alike = λ d h. (steady.fit d h).1;
}

module _ (N : Numbers) (t : Tables) (fine : Sound N t) where
  open N use {n, slots, phases, room}

  abbrev ws : List ℕ
  ws = t.words

  abbrev Stays : List ℕ → Type 0
  Stays = Steady N ws

  -- words as they were
  unchanged : Stays ws
  unchanged = record { known = fine.known; fit = λ d h. (own_unspoiled N fine h, refl) }

  -- a store behind the records changes none of them
  stored_behind : (i v : ℕ) → holders_base N ≤ i → Stays (store_at ws i v)
  unfolding known_in
  stored_behind i v low = record {
    known = rw ((elsewhere {lo = 0} {hi = 1} ws i v (inr (omega arith))).at 0 (omega arith) (omega arith)) fine.known;
    fit = λ d h. let same = record_agrees d (elsewhere ws i v (inr (omega arith))) in
        (ap (spoiled N) same ∙ own_unspoiled N fine h, ap (λ (k : Record). k.crashed) same);
  }

  -- one more known tag, where there is room for it
  raised : (l : List ℕ) (k : ℕ) → 1 ≤ length l → k < room → Stays l → Stays (store_at l known_cell (suc k))
  unfolding known_in
  raised l k some low steady = record {
    known = rw (get_or-set_same l 0 (suc k) 0 some) low;
    fit = λ d h. subst (Fit N (record_at ws d)) (sym (record_agrees d (elsewhere l 0 (suc k) (inl (omega arith))))) (steady.fit d h);
  }

  module _ (c : ℕ) (here : c < n) where
    abbrev k : Record
    k = record_at ws c

    -- the acting replica's record changes to one that is fit, where the words have it as it was
    enters : (l : List ℕ) (move : Record → Record) → record_end c ≤ length l → record_at l c ≡ k → Fit N k (move k) → Stays l → Stays (with_change l c move)
    unfolding known_in
    enters l move there same fit steady = record {
      known = rw ((record_elsewhere {lo = 0} {hi = 1} l c new (inr (omega arith))).at 0 (omega arith) (omega arith)) steady.known;
      fit = λ d h. go d h (ℕ_discrete d c);
    }
      where
        new : Record
        new = move (record_at l c)

        go : (d : ℕ) → d < n → Dec (d ≡ c) → Fit N (record_at ws d) (record_at (record_stored l c new) d)
        go d h (yes e) = rw e (subst (Fit N k) (sym (same_record l c new there ∙ ap move same)) fit)
        go d h (no ne) = subst (Fit N (record_at ws d)) (sym (other_record l c new there d ne)) (steady.fit d h)

    abbrev seen : Replica
    seen = (view N t).at c

    -- the round that the replica is seen in goes with its slot and phase
    placed : (a : Round) → seen.round ≡ a → misplaced N a k.slot seen.phase ≡ false
    placed a = subst (λ (x : Replica). x.round ≡ a → misplaced N a k.slot x.phase ≡ false) (sym (own_view N t here))
        (λ q. subst (λ (b : Round). misplaced N b k.slot k.phase ≡ false) q (stands N fine here))

    -- and then its slot is one of the run
    low : (a : Round) → same_round a Idle ≡ false → seen.round ≡ a → k.slot < slots
    low a busy q = seen_low N fine here a busy q

    -- the mark of its message is stored, and its record changes
    marks : (so : Sort) (q : ℕ) (move : Record → Record) → Fit N k (move k)
        → Stays (with_change (store_at ws (heard_cell N so k.slot q c) (2 ^ c)) c move)
    marks so q move fit = let i = heard_cell N so k.slot q c in
        enters (store_at ws i (2 ^ c)) move (rw length-set (record_there N fine here)) (record_agrees c (elsewhere ws i (2 ^ c) (inr (omega arith)))) fit
        (stored_behind i (2 ^ c) (omega arith))

    -- it enters a round of its slot that goes with the phase
    moves : (a : Round) (p : ℕ) → misplaced N a k.slot p ≡ false → Fit N k (moved a k.slot p k)
    moves a p e = (moved_fine N a k.slot p k e (own_counts N fine here), refl)

    -- it sends a message, and waits in the round of that
    sends : (so : Sort) (p : ℕ) → misplaced N (round_of so) k.slot p ≡ false → Stays (words_sent N c so p ws)
    sends so p e = marks so p (moved (round_of so) k.slot p) (moves (round_of so) p e)

    -- a state is sent for a phase of the run
    sends_state : (p : ℕ) → k.slot < slots → 1 ≤ p → p ≤ phases → Stays (words_sent N c States p ws)
    unfolding misplaced
    sends_state p l some few = sends States p (ap₂ (λ (a b : Bool). a || not b) (lt-leb slots k.slot l) (state_in N p some few))

    -- it closes its slot, and so sends its notice
    closed : (x : ℕ) (own : Bool) → k.slot < slots → Stays (words_closed N c x own ws)
    closed x own l = marks Notices 0 (shut x own) (shut_fine N x own k l (own_counts N fine here), refl)

    -- it holds a tag that is known, or for which there is room
    holds : (x : ℕ) → (listed x (take (known_in ws) t.orders) ≡ true) ⊎ (length (take (known_in ws) t.orders) < room)
        → Stays (words_held N c x t.orders ws)
    holds x fits = if-ind Stays _ (λ e. stored_behind _ _ (omega arith)) (λ e. ⊎_elim (λ q. clash (sym e ∙ q)) new fits)
      where
        j : ℕ
        j = known_in ws

        new : length (take j t.orders) < room → Stays (store_at (store_at ws (holder_cell N j) (2 ^ c)) known_cell (suc j))
        new l =
            let few = fine.known in
            let enough = fine.long.orders in
            let wide = fine.long.words in
            let left = subst (λ (i : ℕ). i < room) (length-take-le j t.orders (omega arith)) l in
            raised (store_at ws (holder_cell N j) (2 ^ c)) j (rw length-set (omega arith)) left (stored_behind (holder_cell N j) (2 ^ c) (omega arith))

    -- what each rule but a crash leaves
    by_rule : {a : Act} {e : Effect} → is_crash a ≡ false → ByRule N (view N t) seen a e → Stays (write N c e t).words
    unfolding write misplaced phase_in
    by_rule no-crash (by_submit {x} ne free fits) = holds x fits
    by_rule no-crash (by_relay {x} ne known free) = holds x (inl known)
    by_rule no-crash (by_begin idle open_slot some) = let l = subst (λ (x : Replica). x.closed < slots) (own_view N t here) open_slot in
        sends Proposals 0 (lt-leb slots k.slot l)
    by_rule no-crash (by_hear so hd hs hp sent free) = stored_behind _ _ (omega arith)
    by_rule no-crash (by_notice heard) = closed (tag_of (notice N seen)) false (noticed_low N t here heard)
    by_rule no-crash (by_exchange was enough) = sends_state 1 (low Exchange refl was) (omega arith) fine.within.phases_some
    by_rule no-crash (by_state was enough) = sends Votes seen.phase (placed State was)
    by_rule no-crash (by_outcome_0 v o) = closed 0 true (low Vote refl v.in_round)
    by_rule no-crash (by_outcome_1 v o some) = closed (majority_tag N seen) true (low Vote refl v.in_round)
    by_rule no-crash (by_seek v o none) = let fit = moves Find k.phase (lt-leb slots k.slot (low Vote refl v.in_round)) in
        enters ws (moved Find k.slot k.phase) (record_there N fine here) refl fit unchanged
    by_rule no-crash (by_next_phase flip v o more) = sends_state (suc seen.phase) (low Vote refl v.in_round) (omega arith) more
    by_rule no-crash (by_find was some) = closed (majority_tag N seen) true (low Find refl was)
    by_rule no-crash by_crash = clash (sym no-crash)

module _ (N : Numbers) (strip : List ℕ) (a : Step) (t : Tables) where
  -- a step keeps the lengths, whatever it comes to
  same_lengths : lengths (performed N strip a t) ≡ lengths t
  unfolding stepped play
  same_lengths = step_lengths_kept N strip a t

  -- what is to be shown of its effect
  abbrev Leaves : Effect → Type 0
  Leaves e = lengths (write N a.who.0 e t) ≡ lengths t → accepted e ≡ true → StillFine N t (write N a.who.0 e t)

  -- a refusal is not accepted; else the refusals passed and a rule gave the effect
  judged : is_crash a.act ≡ false → Leaves (judge N strip a t)
  unfolding judge
  judged no-crash = unless_ind Leaves (step_refusals N strip a t) (λ why _ h. clash h) (λ u same _.
      let (lent, rest) = unmet_both (lent_refusals N a t) _ u in
      let (acts, rule) = past N (view N t) strip a rest in
      let fine = lent_sound N a t no-crash lent in
      still N fine same (by_rule N t fine a.who.0 acts.there no-crash rule))

-- an accepted step other than a crash leaves memories that are fine again
pub still_fine : (N : Numbers) (strip : List ℕ) (a : Step) (t : Tables) → is_crash a.act ≡ false → accepted (judge N strip a t) ≡ true
    → StillFine N t (performed N strip a t)
still_fine N strip a t no-crash h = judged N strip a t no-crash (same_lengths N strip a t) h

-- ---- any list of such steps

-- no step of a list is a crash
unfoldable pub Calm : List Step → Type 0
Calm [] = Unit {0}
Calm (a ∷ steps) = (is_crash a.act ≡ false) × Calm steps

pub calm_one : (a : Step) → is_crash a.act ≡ false → Calm (a ∷ [])
unfolding Calm
calm_one a e = (e, tt)

pub calm_then : (xs ys : List Step) → Calm xs → Calm ys → Calm (xs ++ ys)
unfolding Calm
calm_then [] ys a b = b
calm_then (x ∷ xs) ys a b = (a.0, calm_then xs ys a.1 b)

pub calm_each : (k : ℕ) (ok : ℕ → Bool) (steps : ℕ → List Step) → ((c : ℕ) → Calm (steps c)) → Calm (for_each k ok steps)
unfolding for_each Calm
calm_each zero ok steps all = tt
calm_each (suc k) ok steps all = calm_then (for_each k ok steps) _ (calm_each k ok steps all) (if-ind Calm (ok k) (λ _. all k) (λ _. tt))
