-- A mask that is made replica by replica.
use Prim.Native.Nat.{ℕ, ◌+◌}
use native.Mathlib.Omega.{arith}
use native.Mathlib.Decide.{ℕ_discrete}
use mathlib.Core.Bool.{Bool, true, false, not, ◌&&◌, ◌||◌, and-false as and_false_right}
use mathlib.Core.Logic.{◌≢◌}
use mathlib.Core.Path.{◌≡◌, sym, ◌∙◌, ap, subst}
use lib.Dec.{ltb, eqb}
use borrow.Author.Tests.{lt-ltb, le-ltb, ltb-true, ltb-false, eq-eqb, ne_eqb}
use Rattle.model.proofs.Branches.{told}
use Rattle.model.proofs.Cases.{either}
use Rattle.tables.specs.Layout.{has_bit, with_bit}
use Rattle.tables.specs.Masks.{no_bit, has_with}
use Rattle.survey.specs.Marked.{Marked}

-- it has the bits of those of the first k that pass a test, and no other
pub record Marks (ok : ℕ → Bool) (k mask : ℕ) : Type 0 where
  pub bits : (c : ℕ) → has_bit mask c ≡ (ltb c k && ok c)

module _ (ok : ℕ → Bool) where
  pub marks_none : Marks ok 0 0
  marks_none = record { bits = λ c. no_bit c ∙ sym (ap (λ (b : Bool). b && ok c) (le-ltb c 0 (omega arith))) }

  -- of n it has the bits of those that pass
  pub marks_all : {n mask : ℕ} → Marks ok n mask → Marked n ok mask
  marks_all {n} all c there = all.bits c ∙ ap (λ (b : Bool). b && ok c) (lt-ltb c n there)

  module _ {k mask : ℕ} (so_far : Marks ok k mask) where
    -- one more among them changes nothing of another
    other : (c : ℕ) → c ≢ k → ltb c k ≡ ltb c (k + 1)
    other c ne = either (ltb c k) (λ e. let h = ltb-true c k e in e ∙ sym (lt-ltb c (k + 1) (omega arith)))
        (λ e. let h = ltb-false c k e in e ∙ sym (le-ltb c (k + 1) (omega arith)))

    pub marks_with : ok k ≡ true → Marks ok (k + 1) (with_bit mask k)
    marks_with e = record { bits = λ c. has_with mask k c ∙ go c (ℕ_discrete c k) }
      where
        go : (c : ℕ) → Dec (c ≡ k) → (eqb c k || has_bit mask c) ≡ (ltb c (k + 1) && ok c)
        go c (yes q) = rw (eq-eqb c k q, lt-ltb c (k + 1) (omega arith)) (sym (ap ok q ∙ e))
        go c (no ne) = rw (ne_eqb c k ne, ← other c ne) (so_far.bits c)

    pub marks_without : ok k ≡ false → Marks ok (k + 1) mask
    marks_without e = record { bits = λ c. so_far.bits c ∙ go c (ℕ_discrete c k) }
      where
        go : (c : ℕ) → Dec (c ≡ k) → (ltb c k && ok c) ≡ (ltb c (k + 1) && ok c)
        go c (yes q) = rw (le-ltb c k (omega arith), lt-ltb c (k + 1) (omega arith)) (sym (ap ok q ∙ e))
        go c (no ne) = rw (other c ne)

-- those that pass one test and fail another, by the branches that the code took
module _ (a b : ℕ → Bool) {k mask : ℕ} (so_far : Marks (λ c. a c && not (b c)) k mask) where
  abbrev Further : ℕ → Type 0
  Further m = Marks (λ c. a c && not (b c)) (k + 1) m

  pub marks_both : {m : ℕ} {p q : Bool} → p ≡ a k → p ≡ true → q ≡ b k → q ≡ false → m ≡ with_bit mask k → Further m
  marks_both first passes second fails e = subst Further (sym e) (marks_with _ so_far (rw (told first passes, told second fails)))

  pub marks_second : {m : ℕ} {q : Bool} → q ≡ b k → q ≡ true → m ≡ mask → Further m
  marks_second second passes e = subst Further (sym e) (marks_without _ so_far (rw (told second passes, and_false_right (a k))))

  pub marks_neither : {m : ℕ} {p : Bool} → p ≡ a k → p ≡ false → m ≡ mask → Further m
  marks_neither first fails e = subst Further (sym e) (marks_without _ so_far (rw (told first fails)))
