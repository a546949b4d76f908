-- A run is never stuck: with a quorum running and one of them in a round, some relay, begin, hear or advance is accepted, or an
-- advance is refused for used-up phases. If two running replicas are in different slots, the one behind can hear the other's
-- notice, or close by it. Else take one that is least far in the slot: all others have sent what it waits for, so it can hear
-- one of them, or has heard a quorum. If it is idle, an order proposed here is in no log: it can be relayed, or begun with.
use Prim.Native.Nat.{ℕ, ◌+◌, ◌≤◌, ◌<◌}
use Rattle.std.proofs.Common.{arith, ◌∙◌}
use Rattle.std.specs.Prelude.{Bool, true, List, ◌⊎◌, ◌≢◌, ◌≡◌}
use Rattle.std.proofs.Math.Bool.{false, not}
use Rattle.std.proofs.Math.Logic.{inl, inr}
use Rattle.std.proofs.Math.Option.{Option}
use Rattle.std.proofs.Math.Path.{refl, sym, ap, subst}
use Rattle.std.proofs.Math.Dec.{leb, eqb}
use borrow.Author.Tests.{ne_eqb, leb-true, leb-false, lt-leb, le-ltb, not-true}
use Rattle.safety.specs.Types.{Numbers, Round, Idle, Vote, Find, Sort, Proposals, Votes}
use Rattle.safety.specs.Types.{Notices, Tag, TooFewHeard, PhasesUsedUp, Refuse}
use Rattle.safety.specs.Types.{Message, Act, Relay, Begin, Hear, Advance, Step}
use Rattle.model.specs.Tests.{count}
use Rattle.model.specs.Rack.{sort_number, round_of, is, is_sent, Replica, Rack}
use Rattle.model.specs.TurnedAway.{unless, Rule, settle}
use Rattle.model.specs.Rules.{logged, pending, next_tag, seen, quorum, majority, heard_count, tally}
use Rattle.model.specs.Rules.{notice, outcome, phases_used_up, advance_rule, heed, phase_in}
use Rattle.model.specs.Rules.{hear_rule, own_rule, from_nobody}
use Rattle.model.specs.Scripts.{accepted}
use Rattle.model.proofs.Branches.{if-false, when_met, when_missed}
use Rattle.model.proofs.Cases.{clash, either, and_both, or_none, if-ind, Unmet}
use Rattle.model.proofs.Cases.{round_apart, sort_back, is_true}
use Rattle.model.proofs.Counting.{any_nowhere}
use Rattle.model.proofs.FirstSent.{first_there}
use Rattle.model.proofs.FirstTag.{first_of_leads}
use Rattle.safety.specs.Claims.{moves, by_rules, CanMove, UsedUp}
use Rattle.safety.proofs.Board.{tagged}
use Rattle.safety.specs.Comes.{Acts}
use Rattle.safety.specs.Invariant.{progress, Eligible, Invariant}
use Rattle.safety.proofs.Entries.{same_entry}
use Rattle.safety.specs.Below.{differ_below, count_not}
use Rattle.safety.specs.Steady.{Due, SteadyRack}
use Rattle.safety.specs.Onward.{Goes, concludes, due_in, majority_found, passes, through, unheard}

module _ (N : Numbers) where
  open N use {n, f, slots, phases}

  -- a running replica's step comes to what its own rule says
  abbrev by : ℕ → Act → Step
  by c a = record { who = record { 0 = c }; act = a }

  module _ (fits : f + f + 1 ≤ n) (r : Rack) (inv : Invariant N r) (steady : SteadyRack N r) where
    abbrev pub Goal : Type 0
    Goal = CanMove N (by_rules N r) ⊎ UsedUp N (by_rules N r)

    -- ---- steps of a running replica

    module _ (c : ℕ) (acts : Acts N r c) where
      abbrev pub k : Replica
      k = r.at c

      can : (a : Act) → moves a ≡ true → from_nobody N a ≡ false → ((strip : List ℕ) → accepted (settle (own_rule N strip a r k)) ≡ true)
          → CanMove N (by_rules N r)
      can a counts somebody h = record { step = by c a; counts = counts; goes = λ strip long. ap accepted (through N r c acts strip long a somebody) ∙ h strip }

      -- a message of its slot
      can_hear : (so : Sort) (p d : ℕ) → k.closed < slots → phase_in N so p ≡ true → d < n → is_sent (r.sent so k.closed p d) ≡ true
          → is_sent (seen k so p d) ≡ false → CanMove N (by_rules N r)
      unfolding own_rule hear_rule Unmet
      can_hear so p d low phase there sent unheard = can (Hear m) refl (lt-leb _ _ there) (λ strip.
          subst (λ (o : Option Sort). accepted (settle (hear_rule N r.sent k m o)) ≡ true) (sym (sort_back so))
          (passes _ ((or_none (leb slots k.closed) _ (lt-leb _ _ low) (ap not phase), (ap not sent, (unheard, tt))), refl)))
        where
          m : Message
          m = record { sort = sort_number so; slot = record { 0 = k.closed }; phase = record { 0 = p }; sender = record { 0 = d } }

      -- by a notice, or by its round's rule
      can_advance : (is_sent (notice N k) ≡ false → (flip : Bool) → Goes (advance_rule N flip k k.round)) → CanMove N (by_rules N r)
      unfolding own_rule heed unless
      can_advance h = can Advance refl refl (λ strip.
          if-ind (λ (x : Rule). accepted (settle x) ≡ true) (is_sent (notice N k)) (λ _. refl) (λ none. passes _ (h none _)))

      pub in_round : {a : Round} → k.round ≡ a → ((flip : Bool) → Goes (advance_rule N flip k a)) → CanMove N (by_rules N r)
      in_round was h = can_advance (λ _ flip. subst (λ (a : Round). Goes (advance_rule N flip k a)) (sym was) (h flip))

      -- ---- it is behind another

      pub behind : (d : ℕ) → d < n → k.closed < (r.at d).closed → CanMove N (by_rules N r)
      unfolding phase_in
      behind d there low = either (is_sent (seen k Notices 0 d))
          (λ heard. can_advance (λ none. clash (sym none ∙ first_there (seen k Notices 0) 0 n d (omega arith) (omega arith) heard)))
          (λ unheard. can_hear Notices 0 d (let high = (steady d).low in omega arith) refl there
          (ap is_sent ((inv.replica d).entries k.closed low).notice) unheard)

      -- ---- it is idle, where another proposed a tag

      pub begins : (x d : ℕ) → x ≢ 0 → Eligible r.known (r.at d).entry k.closed x → (r.at d).closed ≡ k.closed → k.round ≡ Idle → k.closed < slots
          → CanMove N (by_rules N r)
      unfolding own_rule Unmet
      begins x d ne el level was low = either (k.held x)
          (λ held. can Begin refl refl (λ _. passes _ ((rw was refl, (lt-leb _ _ low, (ne_eqb _ 0 (waiting held), tt))), refl)))
          (λ unheld. can (Relay x) refl refl (λ _. passes _ ((ne_eqb x 0 ne, (ap not el.known_tag, (unheld, tt))), refl)))
        where
          unlogged : logged k x ≡ false
          unlogged = any_nowhere k.closed (λ s. eqb (k.entry s) x)
              (λ t h. ne_eqb (k.entry t) x (λ e. el.unused t h (same_entry N fits r inv d c t (omega arith) h ∙ e)))

          waiting : k.held x ≡ true → next_tag r.known k ≢ 0
          waiting held = (first_of_leads (pending k) r.known x el.known_tag (and_both (k.held x) _ held (ap not unlogged)) ne).0

      pub finds : k.round ≡ Find → CanMove N (by_rules N r)
      unfolding advance_rule Unmet phase_in
      finds was = let (x, ne, most) = tagged N r.sent inv.grounded fits _ _ ((inv.replica c).finding was) in
          either (leb (majority N) (tally N k Proposals 0 (Tag x)))
          (λ t. in_round was (λ flip. ((ne_eqb _ 0 (λ z. ne (sym (majority_found N k x (leb-true _ _ t)) ∙ z)), tt), refl)))
          (λ t. let (d, there, a, b) = differ_below n (λ d. is (Tag x) (r.sent Proposals k.closed 0 d)) (λ d. is (Tag x) (seen k Proposals 0 d))
          (omega (arith, leb-false (majority N) (tally N k Proposals 0 (Tag x)) t)) in
          let said = sym (is_true _ _ a) in
          can_hear Proposals 0 d ((steady c).within (λ e. round_apart Find Idle refl (sym was ∙ e))) refl there (ap is_sent said)
          (unheard N fits r inv steady c acts Proposals 0 d (Tag x) said b))

      -- ---- it is in the vote round, with a quorum heard

      pub votes : k.round ≡ Vote → quorum N ≤ heard_count N k Votes k.phase → Goal
      unfolding own_rule heed advance_rule Unmet
      votes was q = either (phases_used_up N k).met
          (λ used. either (is_sent (notice N k)) (λ heard. inl (can_advance (λ none. clash (sym none ∙ heard)))) (λ none. inr (record {
            who = record { 0 = c };
            refused = λ strip long. through N r c acts strip long Advance refl ∙ ap settle (if-false _ _ none ∙ ap (advance_rule N _ k) was)
                ∙ when_missed Refuse TooFewHeard _ _ (le-ltb _ _ q) ∙ when_met Refuse PhasesUsedUp _ _ used;
          })))
          (λ goes. inl (in_round was (λ flip. ((le-ltb _ _ q, (goes, tt)), concludes N flip k (outcome N k)))))

    -- ---- with a quorum running

    module _ (few : count n (λ c. (r.at c).crashed) ≤ f) where
      abbrev pub far : ℕ → ℕ
      far c = progress (r.at c).round (r.at c).phase

      -- c is the least far of the running ones, which are all in one slot, and d is in a round
      module _ (c d : ℕ) (acts : Acts N r c) (busy : (r.at d).round ≢ Idle) (level : (e : ℕ) → Acts N r e → (r.at e).closed ≡ (r.at c).closed)
          (least : (e : ℕ) → Acts N r e → far c ≤ far e) (live : Acts N r d) where
        pub low : (r.at c).closed < slots
        low = let l = (steady d).within busy in let e = level d live in omega arith

        -- what it waits for was sent by all running ones
        pub waits : (so : Sort) → Due N so (r.at c).phase → (r.at c).round ≡ round_of so → (quorum N ≤ heard_count N (r.at c) so (r.at c).phase → Goal) → Goal
        waits so due was next = let p = (r.at c).phase in either (leb (quorum N) (heard_count N (r.at c) so p)) (λ t. next (leb-true _ _ t))
            (λ t. let (e, there, a, b) = differ_below n (λ e. not (r.at e).crashed) (λ e. is_sent (seen (r.at c) so p e))
            (omega (arith, leb-false (quorum N) (heard_count N (r.at c) so p) t, count_not n (λ c. (r.at c).crashed))) in
            inl (can_hear c acts so p e low (due_in N so p due) there (sent e (record { there = there; running = not-true _ a })) b))
          where
            sent : (e : ℕ) → Acts N r e → is_sent (r.sent so (r.at c).closed (r.at c).phase e) ≡ true
            sent e it = rw (← level e it) ((steady e).so_far so (r.at c).phase due (let l = least e it in rw was at l))
