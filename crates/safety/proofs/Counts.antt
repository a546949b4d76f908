-- The counts of a replica of a run are those of its log and of its accepted steps. What makes them so: a replica has reached the
-- outcome of its open slot exactly if it is in the find round, and then in the phase that its record has. Nothing here asks for a
-- quorum.
use Prim.Native.Nat.{ℕ, suc, ◌+◌}
use Rattle.std.proofs.Common.{arith, ◌∙◌, eq-eqb}
use Rattle.std.proofs.Math.Decide.{ℕ_discrete}
use Rattle.std.specs.Prelude.{Bool, not, ◌&&◌, ◌||◌, ◌≡◌, Some, None}
use Rattle.std.proofs.Math.Bool.{true, false}
use mathlib.Core.List.{List}
use Rattle.std.proofs.Math.Path.{refl, sym, ap, ap₂, subst, subst₃}
use Rattle.std.proofs.Math.Dec.{eqb}
use Rattle.std.proofs.lemmas.Bool.{not-true}
use Rattle.safety.specs.Types.{Numbers, Round, Vote, Find, Sort, Proposals, States, Votes, Word}
use Rattle.safety.specs.Types.{Outcome}
use Rattle.safety.specs.Types.{Effect, Hold, Send, Close, Seek, Receive, Halt, Act, Submit, Relay, Begin, Hear, Advance, Crash, Step}
use Rattle.model.specs.Tests.{bit, count}
use Rattle.model.specs.Rack.{same_round, same_outcome, is_sent, tag_of, Replica, Rack, closing, seeking, apply}
use Rattle.model.specs.Rules.{majority_tag, notice, outcome, decide}
use Rattle.model.specs.Scripts.{accepted}
use Rattle.model.specs.History.{Taken, History, take_step, is_advance, completes, outcome_reached, closes_own, closed_own}
use Rattle.model.proofs.Cases.{clash, and_none, and_first, or_left, or_right, if-ind, set_same, set_other}
use Rattle.model.proofs.Counting.{count_same}
use Rattle.safety.specs.Later.{other_stays}
use Rattle.safety.specs.Heeds.{Heeded}
use Rattle.safety.proofs.Heeds.{decide_heeds}
use Rattle.safety.specs.Comes.{Voting, ByRule, by_submit, by_relay, by_begin, by_hear, by_exchange, by_state, by_outcome_0}
use Rattle.safety.specs.Comes.{by_outcome_1, by_seek, by_next_phase, by_find, by_notice, by_crash, Comes, refused, ruled}
use Rattle.safety.proofs.Comes.{comes}
use Rattle.safety.specs.Counts.{CountsKept, Tallied, aside, brings, elsewhere, fast_now, other_step, reaches_is, reaches_outcome, sends, sought}
use Rattle.safety.specs.Counts.{stood, unapplied}

module _ {k : Replica} {own : ℕ → Bool} {reached : ℕ → ℕ → Bool} (old : Tallied k own reached) where
  -- the slot is closed, by its own outcome or not, where an outcome is reached with it or not
  module _ (c x : ℕ) (o b : Bool) (why : o ≡ true → (b || same_round k.round Find) ≡ true) where
    abbrev own' : ℕ → Bool
    own' s = (eqb k.closed s && o) || own s

    abbrev reached' : ℕ → ℕ → Bool
    reached' s p = (eqb k.closed s && (eqb k.phase p && b)) || reached s p

    shuts : Tallied (closing c x o k) own' reached'
    unfolding count
    shuts = record {
      empty = ap₂ ◌+◌ (ap (λ (y : ℕ). bit (eqb y 0)) (sym (set_same k.closed x k.entry)))
          (old.empty ∙ count_same k.closed _ _ (λ s l. ap (λ (y : ℕ). eqb y 0) (sym (set_other k.closed x k.entry s (omega arith)))));
      fast = ap₂ ◌+◌ (ap bit (sym (fast_now old c x o b why))) (old.fast ∙ count_same k.closed _ _ (λ s l. rw (elsewhere old s (omega arith)) refl));
      unclosed = λ s l. rw (elsewhere old s (omega arith)) (old.unclosed s (omega arith));
      open_slot = λ s p l. rw (elsewhere old s (omega arith), old.open_slot s p (omega arith), elsewhere old s (omega arith))
          (sym (and_none (eqb (suc k.closed) s) _ (and_none (eqb k.phase p) _ refl)));
    }

-- ---- what a step brings: an outcome that it reaches in the slot and phase that its replica is in, and a slot that it closes itself

module _ (N : Numbers) (t : Taken) (c : ℕ) where
  abbrev k : Replica
  k = t.was

  -- an advance of replica c by the vote rule, and by no notice
  abbrev by_votes : Bool
  by_votes = eqb t.step.who.0 c && (is_advance t.step.act && (not (is_sent (notice N k)) && same_round k.round Vote))

  abbrev decides : Bool
  decides = by_votes && (same_outcome (Some false) (outcome N k) || same_outcome (Some true) (outcome N k))

  abbrev reaches : ℕ → ℕ → Bool
  reaches s p = completes N c s p (Some false) t || completes N c s p (Some true) t

  -- with what replica c had closed and reached before
  abbrev Tallies : (ℕ → Bool) → (ℕ → ℕ → Bool) → Replica → Type 0
  Tallies own reached k' = Tallied k' (λ s. closes_own N c s t || own s) (λ s p. reaches s p || reached s p)

module _ (N : Numbers) (r : Rack) (c : ℕ) {own : ℕ → Bool} {reached : ℕ → ℕ → Bool} (old : Tallied (r.at c) own reached) where
  abbrev was : Replica
  was = r.at c

  abbrev in_round : Round → Bool
  in_round = same_round was.round

  abbrev taking : Act → Effect → Taken
  taking a e = record { step = record { who = record { 0 = c }; act = a }; was = was; effect = e }

  -- what is to be shown of an act and its effect
  abbrev Ends : Act → Effect → Type 0
  Ends a e = Tallies N (taking a e) c own reached ((apply c e r).at c)

  -- a message is sent, by no outcome and from a round that is not the find round
  module _ (a : Act) (so : Sort) (p : ℕ) (w : Word) (away : in_round Find ≡ false) where
    -- of another round than the vote round
    sends_before : in_round Vote ≡ false → Ends a (Send so p w)
    sends_before h = sends N r c old a so p w away
        (and_first _ _ (and_none (eqb c c) _ (and_none (is_advance a) _ (and_none (not (is_sent (notice N was))) _ h))))

    -- of the vote round, without an outcome
    sends_on : outcome N was ≡ None → Ends a (Send so p w)
    sends_on h = sends N r c old a so p w away (and_none (by_votes N (taking a (Send so p w)) c) _
        (ap (λ (o : Outcome). same_outcome (Some false) o || same_outcome (Some true) o) h))

  seeks : Voting N was → decides N (taking Advance Seek) c ≡ true → Ends Advance Seek
  unfolding apply
  seeks voting decided = let t = taking Advance Seek in
      subst₃ Tallied (sym (set_same c (seeking was) r.at)) (λ i s. (sym (and_none (eqb c c) _ refl) i) || own s)
      (λ i s p. (sym (reaches_is N t c s p ∙ ap (λ (b : Bool). eqb was.closed s && (eqb was.phase p && b)) decided) i) || reached s p)
      (sought old voting.in_round)

  module _ (x : ℕ) (o : Bool) (heeds : Heeded N was (Close x o)) where
    abbrev close : Taken
    close = taking Advance (Close x o)

    shuts_slot : (o ≡ true → (decides N close c || in_round Find) ≡ true) → Ends Advance (Close x o)
    unfolding apply
    shuts_slot why = subst₃ Tallied (sym (set_same c (closing c x o was) r.at)) (λ i s. (sym (closed_now s) i) || own s)
        (λ i s p. (sym (reaches_is N close c s p) i) || reached s p) (shuts old c x o (decides N close c) why)
      where
        closed_now : (s : ℕ) → closes_own N c s close ≡ (eqb was.closed s && o)
        closed_now s = ap₂ (λ (a b : Bool). a && (eqb was.closed s && b)) (eq-eqb c c refl) (sym heeds)

  -- with the outcome that it reaches
  shuts_by : (x : ℕ) (v : Bool) → Voting N was → outcome N was ≡ Some v → Heeded N was (Close x true) → Ends Advance (Close x true)
  shuts_by x v voting o heeds = shuts_slot x true heeds (λ _. or_left _ _ (reaches_outcome N r c old (Close x true) v voting o (not-true _ (sym heeds))))

  own_step : {a : Act} {e : Effect} → ByRule N r was a e → Heeded N was e → Ends a e
  unfolding apply
  own_step (by_submit {x} b d f) heeds = aside N r c old (Submit x) (Hold x) refl _ _ _ refl (set_same c _ r.at)
  own_step (by_relay {x} b d f) heeds = aside N r c old (Relay x) (Hold x) refl _ _ _ refl (set_same c _ r.at)
  own_step (by_begin is b d) heeds = sends_before Begin Proposals 0 _ (stood N r c old is Find) (stood N r c old is Vote)
  own_step (by_hear {m} so b d f g h) heeds = aside N r c old (Hear m) (Receive so _ _ _ _) refl _ _ _ refl (set_same c _ r.at)
  own_step (by_exchange is q) heeds = sends_before Advance States 1 _ (stood N r c old is Find) (stood N r c old is Vote)
  own_step (by_state is q) heeds = sends_before Advance Votes _ _ (stood N r c old is Find) (stood N r c old is Vote)
  own_step (by_next_phase flip v o l) heeds = sends_on Advance States _ _ (stood N r c old v.in_round Find) o
  own_step (by_outcome_0 v o) heeds = shuts_by 0 false v o heeds
  own_step (by_outcome_1 v o ne) heeds = shuts_by (majority_tag N was) true v o heeds
  own_step (by_seek v o z) heeds = seeks v (reaches_outcome N r c old Seek true v o heeds)
  own_step (by_find is ne) heeds = let x = majority_tag N was in
      shuts_slot x true heeds (λ _. or_right (decides N (close x true heeds) c) _ (stood N r c old is Find))
  own_step (by_notice h) heeds = shuts_slot (tag_of (notice N was)) false heeds (λ e. clash e)
  own_step by_crash heeds = aside N r c old Crash Halt refl _ _ _ refl (set_same c _ r.at)

module _ (N : Numbers) (h : History) (old : CountsKept N h) where
  abbrev r : Rack
  r = h.rack

  -- a step of its own
  own_of : {c : ℕ} {a : Act} {e : Effect} → Comes N r c a e → accepted e ≡ true → Heeded N (r.at c) e → Ends N r c (old c) a e
  own_of (refused why) good heeds = clash good
  own_of {c} (ruled acts rule) good heeds = own_step N r c (old c) rule heeds

  pub step_counts : (strip : List ℕ) (a : Step) → CountsKept N (take_step N strip a h)
  unfolding take_step
  step_counts strip a = if-ind (λ (l : List Taken). CountsKept N (record { rack = apply c e r; taken = l })) (accepted e)
      (λ good d. brings N h old t (apply c e r) d (go d good (ℕ_discrete d c)))
      (λ bad. subst (λ (x : Rack). CountsKept N (record { rack = x; taken = h.taken })) (unapplied c r e bad) old)
    where
      c : ℕ
      c = a.who.0

      e : Effect
      e = decide N strip a r

      t : Taken
      t = record { step = a; was = r.at c; effect = e }

      go : (d : ℕ) → accepted e ≡ true → Dec (d ≡ c) → Tallies N t d (closed_own N h d) (outcome_reached N h d) ((apply c e r).at d)
      go d good (yes same) = rw same (own_of (comes N r strip a) good (decide_heeds N strip a r))
      go d good (no ne) = other_step N h old t (apply c e r) d (λ q. ne (sym q)) (other_stays r c d ne e)
