-- A run is never stuck: the least far of the running replicas can move, or one that is behind another (proofs/Onward).
use Prim.Native.Nat.{ℕ, ◌+◌, ◌≤◌, ◌<◌}
use Rattle.std.proofs.Common.{arith, le_refl, ◌∙◌}
use Rattle.std.proofs.Math.Decide.{dec_lt}
use Rattle.std.specs.Prelude.{Bool, ◌&&◌, ◌⊎◌, ◌≢◌, ◌≡◌}
use Rattle.std.proofs.Math.Bool.{false, not}
use Rattle.std.proofs.Math.Logic.{inl}
use Rattle.std.proofs.Math.Path.{refl, sym, ap}
use Rattle.std.proofs.Math.Dec.{eqb}
use borrow.Author.Tests.{eqb-true, eqb-false, le-ltb, not-true, not-false}
use Rattle.safety.specs.Types.{Numbers, Round, Idle, Exchange, State, Vote, Find, Proposals, States, Votes}
use Rattle.model.specs.Tests.{count, any}
use Rattle.model.specs.Rack.{Rack}
use Rattle.model.specs.Rules.{advance_rule}
use Rattle.model.proofs.Cases.{either, and_true, Unmet}
use Rattle.model.proofs.Counting.{any_false, any_place}
use Rattle.safety.specs.Claims.{by_rules, CanMove, UsedUp}
use Rattle.safety.specs.Comes.{Acts}
use Rattle.safety.specs.Invariant.{progress, Invariant}
use Rattle.safety.specs.Below.{fails, least_of}
use Rattle.safety.specs.Steady.{Phased, SteadyRack}
use Rattle.safety.proofs.Onward.{begins, behind, finds, in_round, low, votes, waits}

module _ (N : Numbers) where
  open N use {n, f}

  module _ (fits : f + f + 1 ≤ n) (r : Rack) (inv : Invariant N r) (steady : SteadyRack N r) where
    abbrev Goal : Type 0
    Goal = CanMove N (by_rules N r) ⊎ UsedUp N (by_rules N r)

    module _ (few : count n (λ c. (r.at c).crashed) ≤ f) where
      abbrev far : ℕ → ℕ
      far c = progress (r.at c).round (r.at c).phase

      module _ (c d : ℕ) (acts : Acts N r c) (busy : (r.at d).round ≢ Idle) (level : (e : ℕ) → Acts N r e → (r.at e).closed ≡ (r.at c).closed)
          (least : (e : ℕ) → Acts N r e → far c ≤ far e) (live : Acts N r d) where
        goes_on : (a : Round) → (r.at c).round ≡ a → Phased N a (r.at c).phase → Goal
        unfolding advance_rule Unmet
        goes_on Idle was h = let (x, ne, said) = (steady d).bid busy in let el = (inv.replica d).proposals _ x said in
            inl (begins N fits r inv steady c acts x d ne (rw (level d live) at el) (level d live) was
            (low N fits r inv steady few c d acts busy level least live))
        goes_on Exchange was h = waits N fits r inv steady few c d acts busy level least live Proposals h was
            (λ q. inl (in_round N fits r inv steady c acts was (λ flip. ((le-ltb _ _ (rw h at q), tt), refl))))
        goes_on State was h = waits N fits r inv steady few c d acts busy level least live States h was
            (λ q. inl (in_round N fits r inv steady c acts was (λ flip. ((le-ltb _ _ q, tt), refl))))
        goes_on Vote was h = waits N fits r inv steady few c d acts busy level least live Votes h was (votes N fits r inv steady c acts was)
        goes_on Find was h = inl (finds N fits r inv steady c acts was)

      pub onward : (c : ℕ) → c < n → (r.at c).crashed ≡ false → (r.at c).round ≢ Idle → Goal
      onward c there running busy = either (any n apart)
          (λ t. let (d, l, e) = any_place n apart t in let (a, b) = and_true (not (r.at d).crashed) _ e in
          inl (split d (record { there = l; running = not-true _ a }) (eqb-false _ _ (not-true _ b)) (dec_lt (r.at c).closed (r.at d).closed)))
          (λ t. let u = least_of n (λ d. not (r.at d).crashed) far (far c) c (le_refl _) there (ap not running) in
          let acts : Acts N r u.who = record { there = u.there; running = not-true _ u.passes } in
          goes_on u.who c acts busy (λ e it. same t e it ∙ sym (same t u.who acts)) (λ e it. u.least e it.there (ap not it.running))
          live _ refl (steady u.who).phased)
        where
          live : Acts N r c
          live = record { there = there; running = running }

          -- running, and in another slot
          apart : ℕ → Bool
          apart d = not (r.at d).crashed && not (eqb (r.at d).closed (r.at c).closed)

          same : any n apart ≡ false → (d : ℕ) → Acts N r d → (r.at d).closed ≡ (r.at c).closed
          same t d it = eqb-true _ _ (not-false _ (fails _ _ (ap not it.running) (any_false n apart t d it.there)))

          split : (d : ℕ) → Acts N r d → (r.at d).closed ≢ (r.at c).closed → Dec ((r.at c).closed < (r.at d).closed) → CanMove N (by_rules N r)
          split d it ne (yes l) = behind N fits r inv steady c live d it.there l
          split d it ne (no l) = behind N fits r inv steady d it c there (omega arith)
