-- A run is never stuck: with a quorum running and one of them in a round, some relay, begin, hear or advance is accepted, or an
-- advance is refused for used-up phases. If two running replicas are in different slots, the one behind can hear the other's
-- notice, or close by it. Else take one that is least far in the slot: all others have sent what it waits for, so it can hear
-- one of them, or has heard a quorum. If it is idle, an order proposed here is in no log: it can be relayed, or begun with.
use Prim.Native.Nat.{ℕ, zero, suc, ◌+◌, ◌≤◌, ◌<◌}
use Rattle.std.proofs.Common.{arith, ⊎_elim, ◌∙◌}
use Rattle.std.proofs.Math.Decide.{ℕ_discrete}
use Rattle.std.specs.Prelude.{Bool, true, List, ◌⊎◌, ◌≡◌, Some, None}
use Rattle.std.proofs.Math.Bool.{false, not}
use Rattle.std.proofs.Math.Path.{refl, sym, ap}
use Rattle.std.proofs.Math.Dec.{leb}
use borrow.Author.Tests.{eq-eqb, leb-true, le-leb, lt-leb, le-ltb}
use Rattle.safety.specs.Types.{Numbers, Sort, Proposals, States, Votes}
use Rattle.safety.specs.Types.{Notices, Word, Tag, Outcome, Effect, Refuse}
use Rattle.safety.specs.Types.{Act, Step}
use Rattle.model.specs.Rack.{is, is_sent, tag_of, Replica, Rack}
use Rattle.model.specs.TurnedAway.{Rule, settle}
use Rattle.model.specs.Rules.{is_crash, seen, majority, tally}
use Rattle.model.specs.Rules.{majority_among, majority_tag, conclude, phase_in}
use Rattle.model.specs.Rules.{own_rule, from_nobody, first_refusals, decide}
use Rattle.model.specs.Scripts.{accepted}
use Rattle.model.proofs.Cases.{clash, and_both, and_none, or_none, if-ind, Unmet, none_met, unmet_past}
use Rattle.model.proofs.Cases.{is_true, is_yes}
use Rattle.safety.specs.Claims.{LongStrip, by_rules, CanMove, UsedUp}
use Rattle.safety.specs.Board.{one_tag}
use Rattle.safety.specs.Comes.{Acts}
use Rattle.safety.specs.Invariant.{Invariant}
use Rattle.safety.specs.Below.{some_below}
use Rattle.safety.specs.Steady.{Due, SteadyRack}

-- ---- a rule that is not refused

-- no condition is met, and the effect is no refusal
abbrev pub Goes : Rule → Type 0
Goes x = Unmet x.refusals × (accepted x.effect ≡ true)

pub passes : (x : Rule) → Goes x → accepted (settle x) ≡ true
passes x (u, e) = ap accepted (none_met Refuse x.effect x.refusals u) ∙ e

module _ (N : Numbers) where
  open N use {n, f, slots, phases}

  -- ---- a tag that has a majority among the proposals heard is found

  found : (k : Replica) (x : ℕ) → majority N ≤ tally N k Proposals 0 (Tag x) → (j d : ℕ) → d < j → seen k Proposals 0 d ≡ Tag x
      → majority_among N k j ≡ x
  unfolding majority_among
  found k x most zero d l e = absurd (omega arith)
  found k x most (suc j) d l e = if-ind (λ (y : ℕ). y ≡ x) (leb (majority N) (tally N k Proposals 0 (Tag (tag_of (seen k Proposals 0 j)))))
      (λ t. one_tag N k.inbox k.closed (leb-true _ _ t) most)
      (λ t. go t (ℕ_discrete d j) (found k x most j d))
    where
      go : leb (majority N) (tally N k Proposals 0 (Tag (tag_of (seen k Proposals 0 j)))) ≡ false → Dec (d ≡ j)
          → (d < j → seen k Proposals 0 d ≡ Tag x → majority_among N k j ≡ x) → majority_among N k j ≡ x
      go t (no apart) below = below (omega arith) e
      go t (yes q) below =
          let same : tag_of (seen k Proposals 0 j) ≡ x = ap (λ (d : ℕ). tag_of (seen k Proposals 0 d)) (sym q) ∙ ap tag_of e in
          clash (sym t ∙ ap (λ (y : ℕ). leb (majority N) (tally N k Proposals 0 (Tag y))) same ∙ le-leb _ _ most)

  pub majority_found : (k : Replica) (x : ℕ) → majority N ≤ tally N k Proposals 0 (Tag x) → majority_tag N k ≡ x
  majority_found k x most =
      let (d, l, e) = some_below n (λ d. is (Tag x) (seen k Proposals 0 d)) (omega arith) in
      found k x most n d l (sym (is_true _ _ e))

  -- a vote round that its phases allow to go on is accepted
  pub concludes : (flip : Bool) (k : Replica) (o : Outcome) → accepted (conclude N flip k o) ≡ true
  unfolding conclude
  concludes flip k (Some false) = refl
  concludes flip k (Some true) = if-ind (λ (e : Effect). accepted e ≡ true) _ (λ _. refl) (λ _. refl)
  concludes flip k None = refl

  pub due_in : (so : Sort) (p : ℕ) → Due N so p → phase_in N so p ≡ true
  unfolding phase_in
  due_in Proposals p h = eq-eqb p 0 h
  due_in States p h = and_both _ _ (le-leb 1 p h.0) (le-leb p phases h.1)
  due_in Votes p h = and_both _ _ (le-leb 1 p h.0) (le-leb p phases h.1)
  due_in Notices p h = absurd h

  -- a running replica's step comes to what its own rule says
  abbrev pub by : ℕ → Act → Step
  by c a = record { who = record { 0 = c }; act = a }

  pub through : (r : Rack) (c : ℕ) → Acts N r c → (strip : List ℕ) → LongStrip N strip → (a : Act) → from_nobody N a ≡ false
      → decide N strip (by c a) r ≡ settle (own_rule N strip a r (r.at c))
  unfolding decide Unmet
  through r c acts strip long a somebody = unmet_past Refuse _ (first_refusals N strip (by c a) r) _
      (and_none (not (is_crash a)) _ (le-ltb _ _ long), (or_none (leb n c) _ (lt-leb _ _ acts.there) somebody, (acts.running, tt)))

  module _ (fits : f + f + 1 ≤ n) (r : Rack) (inv : Invariant N r) (steady : SteadyRack N r) where
    abbrev Goal : Type 0
    Goal = CanMove N (by_rules N r) ⊎ UsedUp N (by_rules N r)

    -- ---- steps of a running replica

    module _ (c : ℕ) (acts : Acts N r c) where
      abbrev pub k : Replica
      k = r.at c

      -- ---- it is in the find round: a majority proposed one tag, and crashed replicas can be heard too

      pub unheard : (so : Sort) (p d : ℕ) (w : Word) → r.sent so k.closed p d ≡ w → is w (seen k so p d) ≡ false → is_sent (seen k so p d) ≡ false
      unheard so p d w said b = ⊎_elim (λ z. ap is_sent z) (λ q. clash (sym b ∙ is_yes w _ (q ∙ said))) ((inv.replica c).heard so k.closed p d)
