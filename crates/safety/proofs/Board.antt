-- The consensus argument, over the messages alone: no rack, no step and no call is spoken of. A board is grounded if each
-- message on it has its grounds in others. On a grounded board the votes of a phase agree, a decision binds every later phase,
-- and a slot that decides 1 has a tag that a majority proposed.
use Rattle.std.specs.Prelude.{ℕ, suc, ◌+◌, ◌≤◌, ◌<◌, Bool, true, false, ◌≡◌, Some, None}
use Rattle.std.proofs.Common.{arith, sym, ap, subst}
use Rattle.std.proofs.Math.Decide.{le_ind, dec_lt}
use Rattle.safety.specs.Types.{Numbers, States, Votes, Unsent, Tag, Say, Unsure, Outcome}
use Rattle.model.specs.Rack.{is, Messages}
use Rattle.model.proofs.Cases.{clash, is_one, unsure_apart}
use Rattle.model.proofs.Counting.{meet}
use Rattle.safety.specs.Board.{AllVotes, Decision, Ended, Grounded, MajorityTag, OtherSent, SomeSent, StateGrounds, carried, deciding_vote, flipped}
use Rattle.safety.specs.Board.{opening, sent_grounds, state_of_vote, states_follow, tagged_state, votes_agree, votes_follow}

module _ (N : Numbers) where
  open N use {n, f}

  module _ (m : Messages) (grounded : Grounded N m) where
    -- all states, and all votes, of a phase say v
    abbrev AllStates : ℕ → ℕ → Bool → Type 0
    AllStates s p v = (w : Bool) → SomeSent m States s p (Say w) → w ≡ v

    -- the f + 1 votes that decide and a quorum meet: no coin falls after a decision
    after_decision : (s p : ℕ) {v : Bool} → Decision N m s p v → AllStates s (suc p) v
    after_decision s p {v} dec w x = go (sent_grounds N m grounded x)
      where
        go : StateGrounds N m s p w → w ≡ v
        go (opening z t) = absurd (sent_grounds N m grounded
            (state_of_vote N m grounded (subst (λ (p : ℕ). SomeSent m Votes s p (Say v)) z (deciding_vote N m grounded dec))))
        go (carried y) = votes_agree N m grounded y (deciding_vote N m grounded dec)
        go (flipped q) = let (d, a, b) = meet n (λ d. is Unsure (m Votes s p d)) (λ d. is (Say v) (m Votes s p d)) (omega arith) in
            absurd (unsure_apart v (is_one (m Votes s p d) a b))

    -- ---- the bound on f is needed from here on: a quorum is not empty
    module _ (fits : f + f + 1 ≤ n) where
      -- after a decision, every vote of every later phase says the same
      binding : (s p : ℕ) (v : Bool) → Decision N m s p v → (q : ℕ) → p < q → AllVotes N m grounded s q v
      binding s p v dec = le_ind (λ q. AllVotes N m grounded s q v) (votes_follow N m grounded (after_decision s p dec))
          (λ q l all. votes_follow N m grounded (states_follow N m grounded fits (omega arith) all))

      -- all decisions of a slot are one
      pub one_decision : (s p q : ℕ) {v w : Bool} → Decision N m s p v → Decision N m s q w → v ≡ w
      one_decision s p q {v} {w} x y = go (dec_lt p q) (dec_lt q p)
        where
          go : Dec (p < q) → Dec (q < p) → v ≡ w
          go (yes h) k = sym ((binding s p v x q h).says w (deciding_vote N m grounded y))
          go (no h) (yes k) = (binding s q w y p k).says v (deciding_vote N m grounded x)
          go (no h) (no k) = let e : q ≡ p = omega arith in
              (votes_agree N m grounded) (deciding_vote N m grounded x) (subst (λ (q : ℕ). SomeSent m Votes s q (Say w)) e (deciding_vote N m grounded y))

      -- a vote round that ends later than a decision ends with the same
      pub later_outcome : (s p q : ℕ) {v : Bool} (o : Outcome) → p < q → Decision N m s p v → Ended N m s q o → o ≡ Some v
      later_outcome s p q {v} (Some w) l dec h = ap Some (one_decision s q p h dec)
      later_outcome s p q {v} None l dec h = absurd (go v dec h)
        where
          none : (v : Bool) → Decision N m s p v → OtherSent m Votes s q (Say v) → ⊥
          none v dec (Unsent, x, a, b) = clash a
          none v dec (Tag y, x, a, b) = sent_grounds N m grounded x
          none v dec (Say u, x, a, b) = b (ap Say ((binding s p v dec q l).says u x))
          none v dec (Unsure, x, a, b) = (binding s p v dec q l).sure x

          go : (v : Bool) → Decision N m s p v → Ended N m s q None → ⊥
          go false dec h = none false dec h.0
          go true dec h = none true dec h.1

      -- and so it has where 1 is decided
      pub tagged : (s p : ℕ) → Decision N m s p true → MajorityTag N m s
      tagged s p dec = tagged_state N m grounded fits s p (state_of_vote N m grounded (deciding_vote N m grounded dec))
