-- The turns of a running replica: it begins, hears each other running one, and advances. A begin and an advance send its message
-- and take it to the next stage; the last advance closes the slot.
use Prim.Native.Nat.{ℕ, suc, ◌+◌, ◌-◌, ◌<◌}
use Rattle.std.proofs.Common.{arith, inr, ◌∙◌}
use Rattle.std.proofs.Math.Nat.{le_refl}
use Rattle.std.specs.Prelude.{Bool, false, ◌&&◌, ◌≢◌, ◌≡◌, ltb, eqb, Some, None}
use Rattle.std.proofs.Math.Bool.{true, not}
use mathlib.Core.List.{List}
use Rattle.std.proofs.Math.Path.{refl, ap, ap₂}
use Rattle.std.proofs.Math.Dec.{leb}
use borrow.Author.Tests.{eqb-false, ne_eqb, lt-leb, le-ltb, not-true}
use Rattle.tables.specs.Types.{Numbers, Exchange, State, Vote, Sort, Proposals, States, Votes, Tag, Say, Unsure}
use Rattle.tables.specs.Types.{Outcome, Send, Close, Seek, Receive, Advance, Step}
use Rattle.model.specs.Tests.{if, set}
use Rattle.model.specs.Rack.{same_outcome, sort_number, is, is_sent, Replica, Rack, apply}
use Rattle.model.specs.Rules.{quorum, majority, heard_count, majority_tag, vote_of, outcome, conclude}
use Rattle.model.specs.Rules.{advance_rule, hear_rule, own_rule}
use Rattle.model.specs.Conductor.{numbered, does, is_running, running_count, common_slot, common_tag}
use Rattle.model.specs.Scripts.{after_all, accepted_of}
use Rattle.model.specs.History.{History}
use Rattle.model.proofs.Branches.{if-false}
use Rattle.model.proofs.Cases.{and_true, or_none, Unmet, set_same, sort_back, is_yes}
use Rattle.safety.specs.Onward.{majority_found}
use Rattle.conductor.specs.Counts.{count_others}
use Rattle.conductor.specs.Turns.{each, Card, card, Claim, Moved, moved_then, here, Takes, one_step}
use Rattle.conductor.specs.Rounds.{phase_of, word_of, word_sent, other, message, hears_all}
use Rattle.conductor.specs.Rounds.{InRound, Closed, heard_next}
use Rattle.conductor.specs.Level.{sort_some, Level}
use Rattle.conductor.specs.Steps.{advances, by, passes_over, phase_there, prevails, quorum_of, sends}

module _ (N : Numbers) (r : Rack) (strip : List ℕ) (level : Level N r strip) where
  open N use {n, f, slots, phases}

  abbrev s : ℕ
  s = common_slot N r

  abbrev x : ℕ
  x = common_tag N r

  abbrev Turn : ℕ → Claim → List Step → ℕ → History → Type 0
  Turn c = Takes N strip (λ d. d ≡ c)

  module _ (c : ℕ) (l : c < n) (h : History) where
    abbrev k : Replica
    k = h.rack.at c

    -- ---- it hears another

    hears : (so : Sort) (d : ℕ) → d < n → d ≢ c → InRound N r so d c (card h.rack c) → h.rack.sent so s (phase_of so) d ≡ word_of x so
        → Turn c (InRound N r so (suc d)) (does (message N r so d) c) 1 h
    unfolding own_rule hear_rule Unmet apply
    hears so d there ne now said = one_step N strip _ (InRound N r so (suc d)) h
        (by N r strip level c l h now.in_slot (message N r so d) (lt-leb n d there) _ (ap
        (hear_rule N h.rack.sent k (record { sort = sort_number so; slot = record { 0 = s }; phase = record { 0 = phase_of so }; sender = numbered d }))
        (sort_back so)) (
          or_none (leb slots s) _ (lt-leb slots s level.in_log) (ap not (phase_there N r strip level so)),
          (ap not (ap is_sent said ∙ word_sent x so), (ap is_sent (now.in_slot.quiet so d there (inr (refl, le_refl d, ne))), tt)),
        )
        ∙ ap (Receive so s (phase_of so) d) said)
        refl refl (rw (set_same c) (record { in_slot = heard_next N r so c k d now.in_slot; round = now.round; phase = now.phase; spoken = now.spoken }))

    -- ---- it advances

    module _ (so : Sort) (plain : sort_number so < 4) (now : InRound N r so n c (card h.rack c)) where
      heard_enough : ltb (heard_count N k so (phase_of so)) (quorum N) ≡ false
      heard_enough = le-ltb (heard_count N k so (phase_of so)) (quorum N) (quorum_of N r strip level c l h so plain now so (le_refl _) is_sent (word_sent x so))

      tag_found : majority_tag N k ≡ x
      tag_found = let fits = level.fits in
          majority_found N k x (omega (arith, quorum_of N r strip level c l h so plain now Proposals (sort_some so) (is (Tag x)) (is_yes (Tag x) (Tag x) refl)))

    pub exchange_turn : InRound N r Proposals n c (card h.rack c) → Turn c (InRound N r States 0) (does Advance c) 1 h
    unfolding advance_rule Unmet
    exchange_turn now = sends N r strip level c l h States Advance refl now.in_slot
        (advances N r strip level c l h Proposals (omega arith) now Exchange now.round (heard_enough Proposals (omega arith) now, tt)
        ∙ ap (λ (y : ℕ). Send States 1 (Say (not (eqb y 0)))) (tag_found Proposals (omega arith) now)
        ∙ ap (λ (b : Bool). Send States 1 (Say (not b))) (ne_eqb x 0 level.a_tag))

    pub state_turn : InRound N r States n c (card h.rack c) → Turn c (InRound N r Votes 0) (does Advance c) 1 h
    unfolding advance_rule Unmet
    state_turn now = sends N r strip level c l h Votes Advance refl now.in_slot
        (advances N r strip level c l h States (omega arith) now State now.round (rw now.phase (heard_enough States (omega arith) now), tt)
        ∙ ap₂ (Send Votes) now.phase vote)
      where
        vote : vote_of N k ≡ Say true
        vote = let fits = level.fits in prevails N k States k.phase (majority N) (Say false) (Say true) Unsure
            (rw now.phase (quorum_of N r strip level c l h States (omega arith) now States (le_refl 2) (is (Say true)) refl)) (omega arith) (omega arith)

    pub vote_turn : InRound N r Votes n c (card h.rack c) → Turn c (Closed N r) (does Advance c) 1 h
    unfolding advance_rule Unmet apply conclude
    vote_turn now = one_step N strip _ (Closed N r) h
        (advances N r strip level c l h Votes (omega arith) now Vote now.round (
          rw now.phase (heard_enough Votes (omega arith) now),
          (ap (λ (o : Outcome). same_outcome None o && leb phases k.phase) decided, tt),
        )
        ∙ ap (conclude N _ k) decided ∙ ap (λ (y : ℕ). if (eqb y 0) Seek (Close y true)) (tag_found Votes (omega arith) now)
        ∙ if-false _ _ (ne_eqb x 0 level.a_tag))
        refl refl (rw (set_same c) (record {
          running = now.in_slot.running;
          round = refl;
          slot = ap suc now.in_slot.slot;
          entries = ap₂ (λ (t : ℕ) (g : ℕ → ℕ). set t x g) now.in_slot.slot now.in_slot.entries;
        }))
      where
        decided : outcome N k ≡ Some true
        decided = let fits = level.fits in prevails N k Votes k.phase (f + 1) (Some false) (Some true) None
            (rw now.phase (quorum_of N r strip level c l h Votes (omega arith) now Votes (le_refl 3) (is (Say true)) refl)) (omega arith) (omega arith)

  -- ---- it hears each other running one, and none twice

  module _ (so : Sort) (c : ℕ) (l : c < n) (on : is_running N r c ≡ true) (h : History)
      (all : (d : ℕ) → d < n → is_running N r d ≡ true → h.rack.sent so s (phase_of so) d ≡ word_of x so)
      (now : InRound N r so 0 c (card h.rack c)) where
    abbrev hear : ℕ → List Step
    hear d = does (message N r so d) c

    abbrev At : ℕ → History → Type 0
    At j h' = Moved (λ d. d ≡ c) (InRound N r so j) h.rack h'.rack

    hears_next : (j : ℕ) (h' : History) → j < n → other N r c j ≡ true → At j h'
        → At (suc j) (after_all (here N strip) (hear j) h') × (accepted_of (here N strip) (hear j) h' ≡ 1)
    hears_next j h' there e came =
        let (on', apart) = and_true (is_running N r j) _ e in
        let ne = eqb-false j c (not-true _ apart) in
        let t = hears c l h' so j there ne (came.reached c refl) (ap (λ (k : Card). k.said so s (phase_of so)) (came.others j ne) ∙ all j there on') in
        (moved_then came t.moved, t.counted)

    pub hear_turn : Turn c (InRound N r so n) (hears_all N r so c) (running_count N r - 1) h
    hear_turn =
        let start : At 0 h = record { reached = λ d q. rw q now; others = λ d ne. refl; known = refl } in
        let (moved, counted) = each (here N strip) n (other N r c) hear 1 At hears_next (passes_over N r strip level so c l on h all now) n
        (le_refl n) h start in
        record { moved = moved; counted = omega (arith, counted, count_others n (is_running N r) c l on) }
