-- The conditions of the documents' table that calls compute (3 of counts, 8, 12, 13, 14, 15, 17, 18), in the table's words, each proved equal to
-- what its rule tests.
use Prim.Native.Nat.{ℕ, zero, suc, ◌<◌}
use Rattle.std.specs.Prelude.{Bool, ◌||◌, ◌≡◌, leb, eqb}
use Rattle.std.proofs.Math.Bool.{true, false, not}
use Rattle.std.proofs.Math.Option.{some as just}
use Rattle.std.proofs.Math.Path.{refl}
use Rattle.tables.specs.Types.{Numbers, Sort, Proposals, NotSent, AlreadyHeard, Effect, Refuse, Message}
use Rattle.model.specs.Tests.{if, any}
use Rattle.model.specs.Rack.{is_sent, Replica}
use Rattle.model.specs.TurnedAway.{unless, settle}
use Rattle.model.specs.Rules.{phase_in, hear_rule, seen}
use Rattle.model.specs.Rules.{majority_among, majority_tag}
use Rattle.tables.specs.Layout.{Tables}
use Rattle.tables.specs.View.{view}
use Rattle.promises.specs.Conditions.{Proposed, found, has_majority, heard_proposal, own_heard, twice}

-- "a controller hearing itself gets 18 if it sent, 17 if not"
pub hearing_itself : (N : Numbers) (t : Tables) (c : ℕ) → c < N.n → (m : Message) → m.sender.0 ≡ c → (so : Sort)
    → (leb N.slots m.slot.0 || not (phase_in N so m.phase.0)) ≡ false
    → settle (hear_rule N (view N t).sent ((view N t).at c) m (just so))
    ≡ Refuse (if (is_sent ((view N t).sent so m.slot.0 m.phase.0 c)) AlreadyHeard NotSent)
unfolding hear_rule unless if
hearing_itself N t c there m own so in_range = let s = m.slot.0 in let p = m.phase.0 in
    rw (own, in_range, own_heard N t c there so s p) (go _ (is_sent ((view N t).sent so s p c)))
  where
    go : (e : Effect) (b : Bool) → if (not b) (Refuse NotSent) (if b (Refuse AlreadyHeard) e) ≡ Refuse (if b AlreadyHeard NotSent)
    go e true = refl
    go e false = refl

module _ (N : Numbers) (k : Replica) (clean : (d : ℕ) → Proposed (seen k Proposals 0 d)) where
  abbrev heard_majority : ℕ → Bool
  heard_majority d = has_majority N k (seen k Proposals 0 d)

  -- a proposal has a majority if and only if the tag that is found is no 0
  any_majority : (m : ℕ) → any m heard_majority ≡ not (eqb (majority_among N k m) 0)
  unfolding any majority_among
  any_majority zero = refl
  any_majority (suc d) = found N k clean _ _ (clean d) (any_majority d)

-- 14, "too few heard": "in find, no majority"
pub no_majority : (N : Numbers) (t : Tables) (c : ℕ) → let k = (view N t).at c in
    eqb (majority_tag N k) 0 ≡ not (any N.n (λ d. has_majority N k (seen k Proposals 0 d)))
no_majority N t c = let k = (view N t).at c in twice (any_majority N k (λ d. heard_proposal N t c k.closed 0 d) N.n)
