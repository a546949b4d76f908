-- What `any` over a range of numbers finds, by the definition that asks all numbers below a bound.
use Prim.Native.Nat.{ℕ, zero, suc, ◌+◌, ◌-◌, ◌≤◌}
use native.Mathlib.Omega.{arith}
use mathlib.Core.Bool.{Bool, true, false, ◌||◌}
use mathlib.Core.List.{List}
use mathlib.Core.Path.{◌≡◌, refl, sym, ◌∙◌, ap, ap₂}
use denote.Param.Members.{Mut}
use Rattle.std.specs.declared.ops.Range.{Range}
use Rattle.std.specs.declared.option.Option.{Option}
use Rattle.std.specs.Fn.{Called}
use Rattle.std.specs.Iterator.{YieldsThen}
use Rattle.std.specs.List.{FoldsTo, list_any, range_with_len}
use Rattle.std.specs.Option.{MatchOption}
use Rattle.std.proofs.iter.Yields.{nat_range_steps}
use Rattle.std.proofs.lemmas.Iterator.{YieldsList-from_range}
use Rattle.std.proofs.lemmas.Iterator.Search.{any_from_yields_List}
use Rattle.model.specs.Tests.{any}
use Rattle.model.proofs.Counting.{any_none, any_more, any_here}

-- what a call of `any` says of how it ran
abbrev Ran : {F : Type 0} → Mut F (ℕ × Unit {0}) Bool → Range ℕ → Range ℕ → F → Bool → Type 0
Ran {F} g s u f r = (xs : List ℕ) × (o : Option ℕ) × (j : F) × YieldsThen nat_range_steps s xs o u
    × FoldsTo (λ p x q. Called g p (x, tt) false q) f xs j × MatchOption o (r ≡ false) (λ x. (r ≡ true) × ((h : F) × Called g j (x, tt) true h))

-- its closure changes nothing, and asks a number what P asks
abbrev Asks : {F : Type 0} → Mut F (ℕ × Unit {0}) Bool → F → (ℕ → Bool) → Type 0
Asks {F} g f P = (x : ℕ) (t : Bool) (q : F) → Called g f (x, tt) t q → (q ≡ f) × (t ≡ P x)

module _ (P : ℕ → Bool) where
  -- none of the numbers below a passes: then those from a on are asked
  listed_any : (n a b : ℕ) → a + n ≡ b → any a P ≡ false → list_any P (range_with_len a n) ≡ any b P
  listed_any zero a b e none = let same : a ≡ b = omega arith in sym none ∙ ap (λ (k : ℕ). any k P) same
  listed_any (suc n) a b e none = go (P a) refl (λ q. listed_any n (a + 1) b (omega arith) (any_more a P ∙ ap₂ ◌||◌ q none))
    where
      go : (t : Bool) → P a ≡ t → (P a ≡ false → list_any P (range_with_len (a + 1) n) ≡ any b P)
          → (P a || list_any P (range_with_len (a + 1) n)) ≡ any b P
      go true q rest = rw q (sym (any_here b P a (omega arith) q))
      go false q rest = ap (λ (t : Bool). t || list_any P (range_with_len (a + 1) n)) q ∙ rest q

  module _ {F : Type 0} {g : Mut F (ℕ × Unit {0}) Bool} {s : Range ℕ} {f : F} (u : Range ℕ) (r : Bool) where
    -- a search that begins where none has passed
    pub any_between : (a b : ℕ) → Ran g s u f r → s ≡ record { start = a; end = b } → a ≤ b → any a P ≡ false → Asks g f P → r ≡ any b P
    any_between a b ran from low none is =
        any_from_yields_List P u f r ran (YieldsList-from_range a b (b - a) from refl) is ∙ listed_any (b - a) a b (omega arith) none

    -- a search from 0 on
    pub any_below : (n : ℕ) → Ran g s u f r → s ≡ record { start = 0; end = n } → Asks g f P → r ≡ any n P
    any_below n ran from is = any_between 0 n ran from (omega arith) (any_none P) is
