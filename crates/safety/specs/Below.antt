-- Of the numbers below n that pass a test: one that fails another, one at all, and the least by a measure. The witnesses of
-- the crate model's counting have no bound; these have.
use Rattle.std.specs.Prelude.{ℕ, zero, suc, ◌+◌, ◌≤◌, ◌<◌, Bool, true, false, not, ◌&&◌, ◌≡◌, refl, ltb}
use Rattle.std.proofs.Common.{arith, sym, ◌∙◌, ap, ltb-true, ltb-false, lt-ltb}
use Rattle.model.specs.Tests.{bit, count, any}
use Rattle.model.proofs.Cases.{either, and_true}
use Rattle.model.proofs.Counting.{any_false, any_place, count_same, differ, some_of_count}

-- as many pass below n as pass, and are below n
count_below : (n : ℕ) (P : ℕ → Bool) → count n (λ d. ltb d n && P d) ≡ count n P
count_below n P = count_same n _ P (λ d l. ap (λ (b : Bool). b && P d) (lt-ltb d n l))

pub differ_below : (n : ℕ) (P Q : ℕ → Bool) → count n Q < count n P → (d : ℕ) × (d < n) × (P d ≡ true) × (Q d ≡ false)
differ_below n P Q h =
    let (d, a, b) = differ n (λ d. ltb d n && P d) Q (omega (arith, count_below n P)) in
    let (l, p) = and_true (ltb d n) _ a in
    (d, ltb-true d n l, p, b)

pub some_below : (n : ℕ) (P : ℕ → Bool) → 0 < count n P → (d : ℕ) × (d < n) × (P d ≡ true)
some_below n P h =
    let (d, a) = some_of_count n (λ d. ltb d n && P d) (omega (arith, count_below n P)) in
    let (l, p) = and_true (ltb d n) _ a in
    (d, ltb-true d n l, p)

-- those that pass and those that fail are all
pub count_not : (n : ℕ) (P : ℕ → Bool) → count n (λ d. not (P d)) + count n P ≡ n
unfolding count
count_not zero P = refl
count_not (suc n) P = go (P n) (count_not n P)
  where
    go : (p : Bool) → count n (λ d. not (P d)) + count n P ≡ n → (bit (not p) + count n (λ d. not (P d))) + (bit p + count n P) ≡ suc n
    go true i = omega arith
    go false i = omega arith

-- ---- the least by a measure

pub record Least (n : ℕ) (P : ℕ → Bool) (g : ℕ → ℕ) : Type 0 where
  pub who : ℕ
  pub there : who < n
  pub passes : P who ≡ true
  pub least : (d : ℕ) → d < n → P d ≡ true → g who ≤ g d

-- of a test that passes, where another fails with it
pub fails : (a b : Bool) → a ≡ true → (a && b) ≡ false → b ≡ false
fails a b e h = sym (ap (λ (a : Bool). a && b) e) ∙ h

-- one that passes is the least, or a lesser one passes
pub least_of : (n : ℕ) (P : ℕ → Bool) (g : ℕ → ℕ) (most c : ℕ) → g c ≤ most → c < n → P c ≡ true → Least n P g
least_of n P g zero c l there p = record { who = c; there = there; passes = p; least = λ d h e. omega arith }
least_of n P g (suc most) c l there p = either (any n (λ d. P d && ltb (g d) (g c)))
    (λ t. let (d, h, e) = any_place n (λ d. P d && ltb (g d) (g c)) t in let (q, less) = and_true (P d) _ e in
    least_of n P g most d (omega (arith, ltb-true (g d) (g c) less)) h q)
    (λ t. record { who = c; there = there; passes = p; least = λ d h q. ltb-false (g d) (g c) (fails (P d) _ q (any_false n _ t d h)) })
