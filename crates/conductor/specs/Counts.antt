-- How many of the numbers below a bound pass a test.
use Rattle.std.specs.Prelude.{ℕ, zero, suc, ◌+◌, ◌≤◌, ◌<◌, Bool, true, not, ◌&&◌, ◌≢◌, ◌≡◌, eqb}
use Rattle.std.proofs.Common.{arith, true≢false, sym, ◌∙◌, ap, eq-eqb, ne_eqb}
use Rattle.std.proofs.Math.Decide.{ℕ_discrete, dec_lt}
use Rattle.std.proofs.Math.Bool.{and-true as and_yes}
use Rattle.model.specs.Tests.{bit, count}
use Rattle.model.proofs.Counting.{count_same}
use Rattle.safety.specs.Below.{differ_below}

-- no more pass a test than pass one that is weaker below the bound
pub count_below : (n : ℕ) (P Q : ℕ → Bool) → ((d : ℕ) → d < n → P d ≡ true → Q d ≡ true) → count n P ≤ count n Q
count_below n P Q h = go (dec_lt (count n Q) (count n P))
  where
    go : Dec (count n Q < count n P) → count n P ≤ count n Q
    go (yes l) = let (d, there, p, q) = differ_below n P Q l in absurd (true≢false (sym (h d there p) ∙ q))
    go (no l) = omega arith

-- all others that pass are one fewer
pub count_others : (n : ℕ) (P : ℕ → Bool) (c : ℕ) → c < n → P c ≡ true → suc (count n (λ d. P d && not (eqb d c))) ≡ count n P
unfolding count
count_others zero P c l e = absurd (omega arith)
count_others (suc n) P c l e = go (ℕ_discrete n c) (λ m. count_others n P c m e)
  where
    other : ℕ → Bool
    other d = P d && not (eqb d c)

    same : (d : ℕ) → d ≢ c → other d ≡ P d
    same d ne = ap (λ (b : Bool). P d && not b) (ne_eqb d c ne) ∙ and_yes (P d)

    go : Dec (n ≡ c) → (c < n → suc (count n other) ≡ count n P) → suc (bit (other n) + count n other) ≡ bit (P n) + count n P
    go (yes q) below = rw (ap P q ∙ e, eq-eqb n c q) (omega (arith, count_same n other P (λ d m. same d (λ z. absurd (omega arith)))))
    go (no ne) below = rw (same n ne) (omega (arith, below (omega arith)))
