-- The bytes of a number, and the number that bytes make.
use Prim.Native.Nat.{ℕ, zero, suc, ◌+◌, ◌-◌, ◌*◌, ◌/◌, ◌%◌, ◌^◌, ◌<◌, ◌≤◌}
use Rattle.std.specs.Prelude.{◌≡◌, refl}
use Rattle.std.proofs.Math.Path.{sym}
use Rattle.std.proofs.Common.{◌∙◌, ⊎_elim, pow-suc, div-add-mod', mul_comm, eq-or-lt_of_le, le_of_suc-le-suc}
use mathlib.Core.List.{[], ◌∷◌, map, map-append, foldl-append}
use Rattle.std.proofs.Math.Nat.{pow-zero, div-eq_of_lt, div-div-eq-div-mul}
use native.Mathlib.Omega.{arith}
use Rattle.model.proofs.Grown.{Grows}
use Rattle.shelf.specs.Planes.{upto, entry_bytes, byte, joined}

-- ---- lists made of 0, 1, .., n − 1

pub upto_grows : Grows upto (λ k. k)
unfolding upto
upto_grows = record { none = refl; more = λ n. refl }

pub map_grows : (g : ℕ → ℕ) → Grows (λ n. map g (upto n)) g
unfolding upto
map_grows g = record { none = refl; more = λ n. map-append g (upto n) (n ∷ []) }

-- two that agree below n
pub same_made : (g g' : ℕ → ℕ) (n : ℕ) → ((p : ℕ) → p < n → g p ≡ g' p) → map g (upto n) ≡ map g' (upto n)
same_made g g' zero same = (map_grows g).none ∙ sym (map_grows g').none
same_made g g' (suc n) same = rw ((map_grows g).more, (map_grows g').more, same_made g g' n (λ p h. same p (omega arith)), same n (omega arith))

-- ---- the number that bytes make

-- one byte lower
shifted : (value k : ℕ) → value / 256 ^ suc k ≡ value / 256 ^ k / 256
shifted value k = rw (pow-suc 256 k) (sym (div-div-eq-div-mul value (256 ^ k) 256))

module _ (g : ℕ → ℕ) where
  pub joined_more : (n : ℕ) → joined (map g (upto (suc n))) ≡ joined (map g (upto n)) * 256 + g n
  joined_more n = rw (map_grows g).more (foldl-append (λ (v b : ℕ). v * 256 + b) 0 (map g (upto n)) (g n ∷ []))

  module _ (small : (p : ℕ) → g p < 256) where
    -- of n bytes, byte p is the one at the place n − 1 − p, the lowest at 0
    pub byte_joined : (n p : ℕ) → p < n → joined (map g (upto n)) / 256 ^ (n - suc p) % 256 ≡ g p
    byte_joined zero p h = absurd (omega arith)
    byte_joined (suc n) p h = rw (joined_more n) (⊎_elim last (λ b. before b (byte_joined n p b)) (eq-or-lt_of_le (le_of_suc-le-suc h)))
      where
        value : ℕ
        value = joined (map g (upto n))

        last : p ≡ n → (value * 256 + g n) / 256 ^ (suc n - suc p) % 256 ≡ g p
        last e = let none : suc n - suc p ≡ 0 = omega arith in rw (none, pow-zero 256, e) (omega (arith, small n))

        before : p < n → value / 256 ^ (n - suc p) % 256 ≡ g p → (value * 256 + g n) / 256 ^ (suc n - suc p) % 256 ≡ g p
        before b e =
            let k = n - suc p in
            let more : suc n - suc p ≡ suc k = omega arith in
            let high : (value * 256 + g n) / 256 ≡ value = omega (arith, small n) in
            rw (more, pow-suc 256 k, mul_comm (256 ^ k) 256, ← div-div-eq-div-mul (value * 256 + g n) 256 (256 ^ k), high) e

-- an entry is what its bytes make
module _ (entry : ℕ) (fits : entry < 256 ^ entry_bytes) where
  pub joined_first : (n : ℕ) → n ≤ entry_bytes → joined (map (λ p. byte p entry) (upto n)) ≡ entry / 256 ^ (entry_bytes - n)
  unfolding upto
  joined_first zero h = sym (div-eq_of_lt fits)
  joined_first (suc n) h =
      let e : entry_bytes - n ≡ suc (7 - n) = omega arith in
      let e' : entry_bytes - suc n ≡ 7 - n = omega arith in
      rw (joined_more (λ p. byte p entry) n, joined_first n (omega arith), e, shifted entry (7 - n), e') (div-add-mod' (entry / 256 ^ (7 - n)) 256)
