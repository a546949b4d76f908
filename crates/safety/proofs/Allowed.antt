-- Every step's effect is allowed: what a replica has heard was sent, so the tag, the vote, the outcome and the next state
-- that the rules take from it have their grounds on the board.
use Prim.Native.Nat.{ℕ, ◌+◌, ◌≤◌}
use Rattle.std.proofs.Common.{arith}
use Rattle.std.specs.Prelude.{true, false, List, ◌≡◌}
use Rattle.std.proofs.Math.Path.{refl, subst}
use borrow.Author.Tests.{eqb-false, leb-true, leb-false, not-true}
use Rattle.safety.specs.Types.{Numbers, States, Votes, Outcome, Effect, Act, Step}
use Rattle.model.specs.Rack.{Replica, Rack}
use Rattle.model.specs.Rules.{quorum, heard_count}
use Rattle.model.specs.Rules.{majority_tag, vote_of, outcome, decide}
use Rattle.model.proofs.Cases.{if-ind, same_tag}
use Rattle.safety.specs.Board.{opening, Grounds, Ended}
use Rattle.safety.specs.Comes.{ByRule, by_submit, by_relay, by_begin, by_hear, by_exchange, by_state, by_outcome_0}
use Rattle.safety.specs.Comes.{by_outcome_1, by_seek, by_next_phase, by_find, by_notice, by_crash, Comes, refused, ruled}
use Rattle.safety.proofs.Comes.{comes}
use Rattle.safety.specs.Invariant.{progress, Eligible, Closes, empty, Invariant, Allowed, notifier}
use Rattle.safety.specs.Allowed.{closes_full, decides, majority_grounds, majority_sent, may_send, next_eligible, next_grounds, other_state, vote_against}

module _ (N : Numbers) (fits : N.f + N.f + 1 ≤ N.n) (r : Rack) (inv : Invariant N r) where
  open N use {n, f}

  module _ (c : ℕ) where
    abbrev own : Replica
    own = r.at c

    vote_grounds : quorum N ≤ heard_count N own States own.phase → Grounds N r.sent Votes own.closed own.phase (vote_of N own)
    vote_grounds q =
        if-ind (Grounds N r.sent Votes own.closed own.phase) _ (λ e. majority_grounds N fits r inv c false (leb-true _ _ e))
        (λ e. if-ind (Grounds N r.sent Votes own.closed own.phase) _ (λ u. majority_grounds N fits r inv c true (leb-true _ _ u))
        (λ u. (other_state N fits r inv c true q (leb-false _ _ u), other_state N fits r inv c false q (leb-false _ _ e))))

    outcome_ended : quorum N ≤ heard_count N own Votes own.phase → Ended N r.sent own.closed own.phase (outcome N own)
    outcome_ended q =
        if-ind (Ended N r.sent own.closed own.phase) _ (λ e. decides N fits r inv c false (leb-true _ _ e))
        (λ e. if-ind (Ended N r.sent own.closed own.phase) _ (λ u. decides N fits r inv c true (leb-true _ _ u))
        (λ u. (vote_against N fits r inv c false q (leb-false _ _ e), vote_against N fits r inv c true q (leb-false _ _ u))))

    -- what a vote round that comes to an outcome leaves on the board
    pub ended_with : {o : Outcome} → quorum N ≤ heard_count N own Votes own.phase → outcome N own ≡ o → Ended N r.sent own.closed own.phase o
    ended_with q e = subst (Ended N r.sent own.closed own.phase) e (outcome_ended q)

  module _ (c : ℕ) where
    rule_allowed : {a : Act} {e : Effect} → ByRule N r (r.at c) a e → Allowed N r c e
    unfolding progress
    rule_allowed (by_submit a b d) = tt
    rule_allowed (by_relay a b d) = tt
    rule_allowed (by_begin was a ne) = record {
      later = rw was (omega arith);
      grounds = tt;
      eligible = λ x _ e. subst (Eligible r.known (r.at c).entry (r.at c).closed) (same_tag e) (next_eligible N fits r inv c ne);
    }
    rule_allowed (by_hear so a b d e g) = refl
    rule_allowed (by_exchange was q) = may_send N fits r inv c (omega arith) (rw was (omega arith))
        (opening refl (λ t. let ne = eqb-false _ _ (not-true _ t) in (majority_tag N (r.at c), ne, majority_sent N fits r inv c n ne)))
    rule_allowed (by_state was q) = may_send N fits r inv c (omega arith) (rw was (omega arith)) (vote_grounds c q)
    rule_allowed (by_outcome_0 v e) = empty refl (r.at c).phase (ended_with c v.enough e)
    rule_allowed (by_outcome_1 v e ne) = closes_full N fits r inv c ne (ended_with c v.enough e)
    rule_allowed (by_seek v e z) = (v.in_round, ended_with c v.enough e)
    rule_allowed (by_next_phase flip v e l) = may_send N fits r inv c (omega arith) (rw v.in_round (omega arith)) (next_grounds N fits r inv c flip v.enough)
    rule_allowed (by_find was ne) = closes_full N fits r inv c ne ((inv.replica c).finding was)
    rule_allowed (by_notice h) = let x = notifier N r inv c h in
        subst (Closes N r.sent (r.at c).closed) x.says ((inv.replica x.who).entries (r.at c).closed x.further).closes
    rule_allowed by_crash = tt

    comes_allowed : {a : Act} {e : Effect} → Comes N r c a e → Allowed N r c e
    comes_allowed (refused why) = tt
    comes_allowed (ruled acts rule) = rule_allowed rule

  -- what a step comes to is allowed
  pub decide_allowed : (strip : List ℕ) (a : Step) → Allowed N r a.who.0 (decide N strip a r)
  decide_allowed strip a = comes_allowed a.who.0 (comes N r strip a)
