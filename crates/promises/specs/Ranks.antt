-- Document 02, Point 5, in its words: which of two tags ranks first, and that begin and the conductor take the first-ranked one.
use Rattle.std.specs.Prelude.{ℕ, ◌/◌, ◌%◌, ◌^◌, ◌<◌, Bool, true, false, not, List, ◌≢◌, ◌≡◌, ltb}
use Rattle.std.proofs.Common.{arith, inl, sym, ◌∙◌, ap, leb-true, leb-false, eq-eqb, ne_eqb}
use Rattle.model.specs.Tests.{listed}
use Rattle.model.specs.Rules.{urgent, ahead}
use Rattle.model.proofs.Cases.{either}
use Rattle.model.proofs.FirstTag.{alike_ahead, ahead_itself, ahead_apart, ahead_so, behind, Picked}
use Rattle.tables.specs.Layout.{has_bit}

-- ---- the order of tags

-- "A tag with its highest bit set is urgent": a tag of a memory has 64 bits
pub highest_bit : (x : ℕ) → x < 2 ^ 64 → urgent x ≡ has_bit x 63
highest_bit x fits = either (urgent x)
    (λ e. let h = leb-true (2 ^ 63) x e in e ∙ sym (eq-eqb (x / 2 ^ 63 % 2) 1 (omega arith)))
    (λ e. let h = leb-false (2 ^ 63) x e in e ∙ sym (ne_eqb (x / 2 ^ 63 % 2) 1 (omega arith)))

-- what follows holds of all numbers: "and ranks before the rest"
pub urgent_before : (x y : ℕ) → urgent x ≡ true → urgent y ≡ false → ahead x y ≡ true
urgent_before x y e f = ahead_so x y (inl (e, f))

-- "then the smaller number counts"
pub then_smaller : (x y : ℕ) → urgent x ≡ urgent y → ahead x y ≡ ltb x y
then_smaller = alike_ahead

-- of two tags exactly one is ahead
pub one_ahead : (x y : ℕ) → x ≢ y → ahead y x ≡ not (ahead x y)
one_ahead x y ne = either (ahead x y) (λ e. behind x y y (ahead_itself y) e ∙ sym (ap not e))
    (λ e. either (ahead y x) (λ f. f ∙ sym (ap not e)) (λ f. absurd (ne (ahead_apart x y e f))))

-- ---- the first-ranked tag

-- of those that pass a test: it is one of them, and ahead of every other; tags of 0 are passed over
pub record FirstRanked (ok : ℕ → Bool) (xs : List ℕ) (x : ℕ) : Type 0 where
  pub one : Picked ok xs x
  pub first : (y : ℕ) → listed y xs ≡ true → ok y ≡ true → y ≢ 0 → y ≢ x → ahead x y ≡ true
