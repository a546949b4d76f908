-- The counts of a replica of a run are those of its log and of its accepted steps. What makes them so: a replica has reached the
-- outcome of its open slot exactly if it is in the find round, and then in the phase that its record has. Nothing here asks for a
-- quorum.
use Prim.Native.Nat.{ℕ, ◌≤◌}
use Rattle.std.proofs.Common.{arith, ◌∙◌, eq-eqb, ne_eqb}
use Rattle.std.specs.Prelude.{Bool, not, ◌&&◌, ◌||◌, ◌≢◌, ◌≡◌, Some}
use Rattle.std.proofs.Math.Bool.{true, false}
use mathlib.Core.List.{◌∷◌}
use Rattle.std.proofs.Math.Path.{refl, sym, ap, ap₂, subst, subst₃}
use Rattle.std.proofs.Math.Dec.{eqb}
use Rattle.safety.specs.Types.{Numbers, Round, Vote, Find, Sort, Proposals, States, Votes, Notices, Word}
use Rattle.safety.specs.Types.{Outcome}
use Rattle.safety.specs.Types.{Effect, Refuse, Hold, Send, Close, Seek, Receive, Halt, Act, Advance}
use Rattle.model.specs.Tests.{count, some}
use Rattle.model.specs.Rack.{same_round, round_of, same_outcome, is_sent, Messages, Replica, Rack, start, seeking, apply}
use Rattle.model.specs.Rules.{notice, outcome}
use Rattle.model.specs.Scripts.{accepted, closes}
use Rattle.model.specs.History.{Taken, History, beginning, is_advance, completes, completed, outcome_reached, closes_own, closed_own, counted}
use Rattle.model.proofs.Cases.{clash, and_none, and_first, set_same}
use Rattle.model.proofs.Counting.{count_same}
use Rattle.safety.specs.Heeds.{Heeded}
use Rattle.safety.specs.Comes.{Voting}

-- ---- tests

-- what is asked of a slot and phase with either of two results
either_result : (g s p a b : Bool) → ((g && (s && (p && a))) || (g && (s && (p && b)))) ≡ (s && (p && (g && (a || b))))
either_result true true true a b = refl
either_result true true false a b = refl
either_result true false p a b = refl
either_result false true true a b = refl
either_result false true false a b = refl
either_result false false p a b = refl

four_first : (a b c d x : Bool) → (a && (b && (c && (d && x)))) ≡ ((a && (b && (c && d))) && x)
four_first true true true d x = refl
four_first true true false d x = refl
four_first true false c d x = refl
four_first false b c d x = refl

-- the first of each pair, and then the second
pairs_first : (a b c d : Bool) → ((a || b) || (c || d)) ≡ ((a || c) || (b || d))
pairs_first true b c d = refl
pairs_first false true true d = refl
pairs_first false true false d = refl
pairs_first false false c d = refl

-- ---- a replica's record, with the slots that it closed itself and the outcomes that it reached

-- it has reached the outcome of its open slot, in this phase, and goes on looking for the tag
abbrev pub finds : Replica → ℕ → ℕ → Bool
finds k s p = eqb k.closed s && (eqb k.phase p && same_round k.round Find)

pub record Tallied (k : Replica) (own : ℕ → Bool) (reached : ℕ → ℕ → Bool) : Type 0 where
  pub empty : k.counts.empty ≡ count k.closed (λ s. eqb (k.entry s) 0)
  pub fast : k.counts.fast ≡ count k.closed (λ s. own s && reached s 1)
  pub unclosed : (s : ℕ) → k.closed ≤ s → own s ≡ false
  pub open_slot : (s p : ℕ) → k.closed ≤ s → reached s p ≡ finds k s p

module _ {k : Replica} {own : ℕ → Bool} {reached : ℕ → ℕ → Bool} (old : Tallied k own reached) where
  -- another slot than the open one
  pub elsewhere : (s : ℕ) → s ≢ k.closed → eqb k.closed s ≡ false
  elsewhere s ne = ne_eqb k.closed s (λ e. ne (sym e))

  -- the find round is entered: an outcome is reached
  pub sought : k.round ≡ Vote → Tallied (seeking k) own (λ s p. (eqb k.closed s && (eqb k.phase p && true)) || reached s p)
  sought was = record {
    empty = old.empty;
    fast = old.fast ∙ count_same k.closed _ _ (λ s l. rw (elsewhere s (omega arith)) refl);
    unclosed = old.unclosed;
    open_slot = λ s p l. rw (old.open_slot s p l, was) (either_result true (eqb k.closed s) (eqb k.phase p) true false);
  }

  -- the slot is closed, by its own outcome or not, where an outcome is reached with it or not
  module _ (c x : ℕ) (o b : Bool) (why : o ≡ true → (b || same_round k.round Find) ≡ true) where
    abbrev pub own' : ℕ → Bool
    own' s = (eqb k.closed s && o) || own s

    abbrev pub reached' : ℕ → ℕ → Bool
    reached' s p = (eqb k.closed s && (eqb k.phase p && b)) || reached s p

    pub fast_now : (own' k.closed && reached' k.closed 1) ≡ (o && eqb k.phase 1)
    fast_now = rw (
      eq-eqb k.closed k.closed refl,
      old.unclosed k.closed (omega arith),
      old.open_slot k.closed 1 (omega arith),
      eq-eqb k.closed k.closed refl,
    ) (go o (eqb k.phase 1) why)
      where
        go : (o p : Bool) → (o ≡ true → (b || same_round k.round Find) ≡ true)
            → ((o || false) && ((p && b) || (p && same_round k.round Find))) ≡ (o && p)
        go true true h = h refl
        go true false h = refl
        go false p h = refl

-- ---- what a step brings: an outcome that it reaches in the slot and phase that its replica is in, and a slot that it closes itself

module _ (N : Numbers) (t : Taken) (c : ℕ) where
  abbrev pub k : Replica
  k = t.was

  -- an advance of replica c by the vote rule, and by no notice
  abbrev by_votes : Bool
  by_votes = eqb t.step.who.0 c && (is_advance t.step.act && (not (is_sent (notice N k)) && same_round k.round Vote))

  abbrev pub decides : Bool
  decides = by_votes && (same_outcome (Some false) (outcome N k) || same_outcome (Some true) (outcome N k))

  abbrev pub reaches : ℕ → ℕ → Bool
  reaches s p = completes N c s p (Some false) t || completes N c s p (Some true) t

  pub reaches_is : (s p : ℕ) → reaches s p ≡ (eqb k.closed s && (eqb k.phase p && decides))
  reaches_is s p = ap₂ ◌||◌ (gathered (Some false)) (gathered (Some true))
      ∙ either_result by_votes (eqb k.closed s) (eqb k.phase p) (same_outcome (Some false) (outcome N k)) (same_outcome (Some true) (outcome N k))
    where
      gathered : (o : Outcome) → completes N c s p o t ≡ (by_votes && (eqb k.closed s && (eqb k.phase p && same_outcome o (outcome N k))))
      gathered o = four_first (eqb t.step.who.0 c) (is_advance t.step.act) (not (is_sent (notice N k))) (same_round k.round Vote)
          (eqb k.closed s && (eqb k.phase p && same_outcome o (outcome N k)))

  -- with what replica c had closed and reached before
  abbrev pub Tallies : (ℕ → Bool) → (ℕ → ℕ → Bool) → Replica → Type 0
  Tallies own reached k' = Tallied k' (λ s. closes_own N c s t || own s) (λ s p. reaches s p || reached s p)

  -- a step that closes and reaches nothing
  still : {own : ℕ → Bool} {reached : ℕ → ℕ → Bool} {k' : Replica} → ((s : ℕ) → closes_own N c s t ≡ false) → decides ≡ false
      → Tallied k' own reached → Tallies own reached k'
  still {own} {reached} unclosed undecided = subst₃ Tallied refl (λ i s. (sym (unclosed s) i) || own s) (λ i s p. (sym (unreached s p) i) || reached s p)
    where
      unreached : (s p : ℕ) → reaches s p ≡ false
      unreached s p = reaches_is s p ∙ and_none (eqb k.closed s) _ (and_none (eqb k.phase p) _ undecided)

-- ---- a step of the replica itself

-- who sends a message is not in the find round
unfound : (so : Sort) → same_round (round_of so) Find ≡ false
unfound Proposals = refl
unfound States = refl
unfound Votes = refl
unfound Notices = refl

module _ (N : Numbers) (r : Rack) (c : ℕ) {own : ℕ → Bool} {reached : ℕ → ℕ → Bool} (old : Tallied (r.at c) own reached) where
  abbrev pub was : Replica
  was = r.at c

  abbrev pub in_round : Round → Bool
  in_round = same_round was.round

  pub stood : {a : Round} → was.round ≡ a → (b : Round) → in_round b ≡ same_round a b
  stood is b = ap (λ (a : Round). same_round a b) is

  abbrev pub taking : Act → Effect → Taken
  taking a e = record { step = record { who = record { 0 = c }; act = a }; was = was; effect = e }

  -- what is to be shown of an act and its effect
  abbrev pub Ends : Act → Effect → Type 0
  Ends a e = Tallies N (taking a e) c own reached ((apply c e r).at c)

  -- ---- steps that close nothing

  module _ (a : Act) (e : Effect) (unclosed : closes e ≡ false) where
    abbrev Undecides : Type 0
    Undecides = decides N (taking a e) c ≡ false

    no_advance : is_advance a ≡ false → Undecides
    no_advance h = and_first _ _ (and_none (eqb c c) _ (and_first (is_advance a) _ h))

    quiet : (k' : Replica) → (apply c e r).at c ≡ k' → Undecides → Tallied k' own reached → Ends a e
    quiet k' at undecided new = subst (Tallies N (taking a e) c own reached) (sym at)
        (still N (taking a e) c (λ s. and_none (eqb c c) _ (and_first (closes e) _ unclosed)) undecided new)

    -- no advance, and round, slot, phase, log and counts are as they were
    pub aside : (crashed : Bool) (held : ℕ → Bool) (inbox : Messages) → is_advance a ≡ false → (apply c e r).at c ≡ record {
      crashed = crashed;
      round = was.round;
      closed = was.closed;
      phase = was.phase;
      counts = was.counts;
      entry = was.entry;
      held = held;
      inbox = inbox;
    } → Ends a e
    aside crashed held inbox h at = quiet _ at (no_advance h)
        (record { empty = old.empty; fast = old.fast; unclosed = old.unclosed; open_slot = old.open_slot })

  -- a message is sent, by no outcome and from a round that is not the find round
  module _ (a : Act) (so : Sort) (p : ℕ) (w : Word) (away : in_round Find ≡ false) where
    pub sends : decides N (taking a (Send so p w)) c ≡ false → Ends a (Send so p w)
    unfolding apply
    sends undecided = quiet a (Send so p w) refl _ (set_same c _ r.at) undecided (record {
      empty = old.empty;
      fast = old.fast;
      unclosed = old.unclosed;
      open_slot = λ s q l. old.open_slot s q l ∙ unfinding s was.phase q away ∙ sym (unfinding s p q (unfound so));
    })
      where
        unfinding : (s p q : ℕ) {b : Bool} → b ≡ false → (eqb was.closed s && (eqb p q && b)) ≡ false
        unfinding s p q e = and_none (eqb was.closed s) _ (and_none (eqb p q) _ e)

  -- ---- steps that reach an outcome, or close the slot

  pub reaches_outcome : (e : Effect) (v : Bool) → Voting N was → outcome N was ≡ Some v → is_sent (notice N was) ≡ false
      → decides N (taking Advance e) c ≡ true
  reaches_outcome e v voting o unheard = rw (eq-eqb c c refl, unheard, voting.in_round, o) (go v)
    where
      go : (v : Bool) → (same_outcome (Some false) (Some v) || same_outcome (Some true) (Some v)) ≡ true
      go true = refl
      go false = refl

  module _ (x : ℕ) (o : Bool) (heeds : Heeded N was (Close x o)) where
    abbrev close : Taken
    close = taking Advance (Close x o)

-- ---- every step, of every replica

-- an effect that is not accepted changes nothing
pub unapplied : (c : ℕ) (r : Rack) (e : Effect) → accepted e ≡ false → r ≡ apply c e r
unfolding apply
unapplied c r = elim [
  | Refuse why ↦ λ h. refl
  | Hold x ↦ λ h. clash (sym h)
  | Send so p w ↦ λ h. clash (sym h)
  | Close x own ↦ λ h. clash (sym h)
  | Seek ↦ λ h. clash (sym h)
  | Receive so s p d w ↦ λ h. clash (sym h)
  | Halt ↦ λ h. clash (sym h)
]

-- what replica c has closed itself and reached in a history goes with its record there
abbrev pub CountsKept : Numbers → History → Type 0
CountsKept N h = (c : ℕ) → Tallied (h.rack.at c) (closed_own N h c) (outcome_reached N h c)

pub start_counts : (N : Numbers) → CountsKept N beginning
unfolding start some count
start_counts N c = record { empty = refl; fast = refl; unclosed = λ s l. refl; open_slot = λ s p l. sym (and_none (eqb 0 s) _ (and_none (eqb 0 p) _ refl)) }

module _ (N : Numbers) (h : History) (old : CountsKept N h) where
  abbrev pub r : Rack
  r = h.rack

  -- the history behind an accepted step
  abbrev pub behind : Taken → Rack → History
  behind t next = record { rack = next; taken = t ∷ h.taken }

  -- of a replica, where this is what the step brings
  pub brings : (t : Taken) (next : Rack) (d : ℕ) → Tallies N t d (closed_own N h d) (outcome_reached N h d) (next.at d)
      → Tallied (next.at d) (closed_own N (behind t next) d) (outcome_reached N (behind t next) d)
  unfolding some
  brings t next d = subst₃ Tallied refl refl (λ i s p. sym (pairs_first (completes N d s p (Some false) t) (completed N h d s p (Some false))
      (completes N d s p (Some true) t) (completed N h d s p (Some true))) i)

  -- a step of another
  pub other_step : (t : Taken) (next : Rack) (d : ℕ) → t.step.who.0 ≢ d → next.at d ≡ r.at d
      → Tallies N t d (closed_own N h d) (outcome_reached N h d) (next.at d)
  other_step t next d ne same = let apart = ne_eqb t.step.who.0 d ne in
      subst (Tallies N t d (closed_own N h d) (outcome_reached N h d)) (sym same)
      (still N t d (λ s. and_first _ _ apart) (and_first _ _ (and_first _ _ apart)) (old d))

-- the counts are those of the history
pub counts_are : (N : Numbers) (h : History) → CountsKept N h → (c : ℕ) → (h.rack.at c).counts ≡ counted N h c
counts_are N h kept c = λ i. record { empty = (kept c).empty i; fast = (kept c).fast i }
