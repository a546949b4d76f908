-- The turns of a running replica: it begins, hears each other running one, and advances. A begin and an advance send its message
-- and take it to the next stage; the last advance closes the slot.
use Prim.Native.Nat.{ℕ, suc, ◌+◌, ◌≤◌, ◌<◌}
use Rattle.std.proofs.Common.{arith, inl, ◌∙◌}
use Rattle.std.specs.Prelude.{Bool, false, ◌≡◌}
use Rattle.std.proofs.Math.Bool.{true}
use Rattle.std.proofs.lemmas.Bool.{false≢true}
use mathlib.Core.List.{List}
use Rattle.std.proofs.Math.Path.{refl, ap}
use Rattle.std.proofs.Math.Dec.{leb}
use borrow.Author.Tests.{leb-true, ne_eqb, le-leb, lt-leb}
use Rattle.tables.specs.Types.{Numbers, Round, Sort, Proposals, States, Votes, Notices, Word, Unsent, Tag, Say}
use Rattle.tables.specs.Types.{Send, Act, Begin, Advance, Step}
use Rattle.model.specs.Tests.{if, count}
use Rattle.model.specs.Rack.{sort_number, is, is_sent, Replica, Rack, apply}
use Rattle.model.specs.TurnedAway.{Rule}
use Rattle.model.specs.Rules.{next_tag, begin_rule, seen, quorum, tally, notice}
use Rattle.model.specs.Rules.{advance_rule, heed, phase_in, own_rule, from_nobody, decide}
use Rattle.model.specs.Coins.{coin}
use Rattle.model.specs.Conductor.{numbered, does, is_running, common_slot, common_tag}
use Rattle.model.specs.History.{History}
use Rattle.model.proofs.Branches.{if-true, if-false}
use Rattle.model.proofs.Cases.{Unmet, set_same, is_one, same_say, put_same}
use Rattle.model.proofs.Counting.{meet}
use Rattle.model.proofs.FirstSent.{first_none, first_alike}
use Rattle.conductor.specs.Counts.{count_below}
use Rattle.conductor.specs.Turns.{card, Claim, Moved, Takes, obeys, one_step}
use Rattle.conductor.specs.Rounds.{phase_of, word_of, other, message, InSlot}
use Rattle.conductor.specs.Rounds.{Waiting, InRound, whole, sent_own, passed_next}
use Rattle.conductor.specs.Level.{Level}

-- where a quorum says 1, and the others are too few to say anything, 1 is what counts
pub prevails : {A : Type 0} (N : Numbers) (k : Replica) (so : Sort) (p least : ℕ) (zero one neither : A) → quorum N ≤ tally N k so p (Say true)
    → least ≤ quorum N → N.n < least + quorum N
    → if (leb least (tally N k so p (Say false))) zero (if (leb least (tally N k so p (Say true))) one neither) ≡ one
prevails N k so p least zero one neither most low high =
    if-false _ _ (few (leb least (tally N k so p (Say false))) refl) ∙ if-true _ _ (le-leb least (tally N k so p (Say true)) (omega arith))
  where
    few : (b : Bool) → leb least (tally N k so p (Say false)) ≡ b → b ≡ false
    few false e = refl
    few true e = let (d, a, b) = meet N.n (λ d. is (Say false) (seen k so p d)) (λ d. is (Say true) (seen k so p d))
        (omega (arith, leb-true least (tally N k so p (Say false)) e)) in absurd (false≢true (same_say (is_one (seen k so p d) a b)))

module _ (N : Numbers) (r : Rack) (strip : List ℕ) (level : Level N r strip) where
  open N use {n, f, slots, phases}

  abbrev s : ℕ
  s = common_slot N r

  abbrev pub x : ℕ
  x = common_tag N r

  abbrev pub Turn : ℕ → Claim → List Step → ℕ → History → Type 0
  Turn c = Takes N strip (λ d. d ≡ c)

  pub phase_there : (so : Sort) → phase_in N so (phase_of so) ≡ true
  unfolding phase_in
  phase_there Proposals = refl
  phase_there States = le-leb (phase_of States) phases (omega (arith, level.a_phase))
  phase_there Votes = le-leb (phase_of Votes) phases (omega (arith, level.a_phase))
  phase_there Notices = refl

  module _ (c : ℕ) (l : c < n) (h : History) where
    abbrev pub k : Replica
    k = h.rack.at c

    pub by : {i j : ℕ} → InSlot N r i j c k → (a : Act) → from_nobody N a ≡ false → (x : Rule) → own_rule N strip a h.rack k ≡ x → Unmet x.refusals
        → decide N strip (record { who = numbered c; act = a }) h.rack ≡ x.effect
    by now = obeys N strip level.long h.rack c (record { there = l; running = now.running })

    -- ---- it sends a message

    pub sends : (so : Sort) (a : Act) {i : ℕ} → sort_number so ≡ suc i → InSlot N r i n c k
        → decide N strip (record { who = numbered c; act = a }) h.rack ≡ Send so (phase_of so) (word_of x so) → Turn c (InRound N r so 0) (does a c) 1 h
    unfolding apply
    sends so a e now is = one_step N strip _ (InRound N r so 0) h is refl refl (rw (set_same c) (record {
      in_slot = sent_own N r so c k e now;
      round = refl;
      phase = refl;
      spoken = rw now.slot (put_same so s _ c _ h.rack.sent);
    }))

    pub begin_turn : h.rack.known ≡ r.known → Waiting N r c (card h.rack c) → Turn c (InRound N r Proposals 0) (does Begin c) 1 h
    unfolding own_rule Unmet
    begin_turn known w =
        let next : next_tag h.rack.known k ≡ x = ap (λ (tags : List ℕ). next_tag tags k) known ∙ w.next in
        sends Proposals Begin refl w.in_slot
        (by w.in_slot Begin refl (begin_rule slots h.rack.known k) refl
        (rw w.round refl, (rw w.in_slot.slot (lt-leb slots s level.in_log), (rw next (ne_eqb x 0 level.a_tag), tt)))
        ∙ ap (λ (y : ℕ). Send Proposals 0 (Tag y)) next)

    -- ---- it advances

    module _ (so : Sort) (plain : sort_number so < 4) (now : InRound N r so n c (card h.rack c)) where
      -- no notice of the slot was heard, so the rule is that of the round
      unnoticed : notice N k ≡ Unsent
      unnoticed = first_alike (seen k Notices 0) (λ d. Unsent) n (λ d l. rw (now.in_slot.slot, seen) (now.in_slot.quiet Notices d l (inl plain))) 0 n
          (omega arith) ∙ first_none (λ d. Unsent) (λ d. refl) 0 n

      pub advances : (a : Round) → k.round ≡ a → let x = advance_rule N (coin phases strip k.closed k.phase) k a in
          Unmet x.refusals → decide N strip (record { who = numbered c; act = Advance }) h.rack ≡ x.effect
      unfolding own_rule heed
      advances a was = by now.in_slot Advance refl _ (if-false _ _ (ap is_sent unnoticed) ∙ ap (advance_rule N _ k) was)

      -- of a sort that it is past, a quorum's words were heard, and are as they are to be
      pub quorum_of : (so' : Sort) → sort_number so' ≤ sort_number so → (P : Word → Bool) → P (word_of x so') ≡ true
          → quorum N ≤ count n (λ d. P (seen k so' (phase_of so') d))
      quorum_of so' q P good = omega (
        arith,
        level.enough,
        count_below n (is_running N r) (λ d. P (seen k so' (phase_of so') d))
            (λ d l on. ap P (rw (now.in_slot.slot, seen) (whole N r now.in_slot so' d l on q)) ∙ good),
      )

  -- ---- it hears each other running one, and none twice

  module _ (so : Sort) (c : ℕ) (l : c < n) (on : is_running N r c ≡ true) (h : History)
      (all : (d : ℕ) → d < n → is_running N r d ≡ true → h.rack.sent so s (phase_of so) d ≡ word_of x so)
      (now : InRound N r so 0 c (card h.rack c)) where
    abbrev hear : ℕ → List Step
    hear d = does (message N r so d) c

    abbrev pub At : ℕ → History → Type 0
    At j h' = Moved (λ d. d ≡ c) (InRound N r so j) h.rack h'.rack

    pub passes_over : (j : ℕ) (h' : History) → j < n → other N r c j ≡ false → At j h' → At (suc j) h'
    passes_over j h' there e came = let at = came.reached c refl in record {
      reached = λ d q. rw q (record { in_slot = passed_next N r so c _ j at.in_slot e; round = at.round; phase = at.phase; spoken = at.spoken });
      others = came.others;
      known = came.known;
    }
