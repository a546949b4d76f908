-- Which openings are too large for the player's tables, test by test.
use Rattle.std.specs.Prelude.{ℕ, ◌≤◌, ◌<◌, true, false, ◌≡◌, ltb}
use Rattle.std.proofs.Common.{subst, ap, lt-ltb, le-ltb}
use Rattle.model.specs.declared.Numbers.{Numbers}
use Rattle.model.specs.declared.Plan.{Plan}
use Rattle.model.specs.declared.Call.TheVariants.{Open}
use Rattle.model.specs.Limits.{planned, plan_limited}
use Rattle.files.specs.Play.{too_large}

module _ (most : Numbers) (q : Plan) where
  pub within : plan_limited q ≡ false → false ≡ too_large most (Open q)
  within h = rw h

  module _ (h : plan_limited q ≡ true) {N : Numbers} (numbers : N ≡ planned q) where
    abbrev M : Numbers
    M = planned q

    few : (f : Numbers → ℕ) → f N ≤ f most → ltb (f most) (f M) ≡ false
    few f a = le-ltb (f most) (f M) (subst (λ (N : Numbers). f N ≤ f most) numbers a)

    many : (f : Numbers → ℕ) → f most < f N → ltb (f most) (f M) ≡ true
    many f a = lt-ltb (f most) (f M) (subst (λ (N : Numbers). f most < f N) numbers a)

    pub large_n : most.n < N.n → true ≡ too_large most (Open q)
    large_n a = rw (h, many (λ N. N.n) a)

    pub large_slots : N.n ≤ most.n → most.slots < N.slots → true ≡ too_large most (Open q)
    large_slots a b = rw (h, few (λ N. N.n) a, many (λ N. N.slots) b)

    pub large_phases : N.n ≤ most.n → N.slots ≤ most.slots → most.phases < N.phases → true ≡ too_large most (Open q)
    large_phases a b c = rw (h, few (λ N. N.n) a, few (λ N. N.slots) b, many (λ N. N.phases) c)

    pub large_room : N.n ≤ most.n → N.slots ≤ most.slots → N.phases ≤ most.phases → ltb most.room N.room ≡ too_large most (Open q)
    large_room a b c = rw (h, few (λ N. N.n) a, few (λ N. N.slots) b, few (λ N. N.phases) c) (ap (λ (N : Numbers). ltb most.room N.room) numbers)
