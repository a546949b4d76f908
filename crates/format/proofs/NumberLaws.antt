-- A number of which one more byte is read, from the last byte back.
use Rattle.std.specs.Prelude.{ℕ, ◌+◌, ◌-◌, ◌*◌, ◌^◌, ◌<◌, ◌≤◌, List, ◌≡◌, refl, get_or}
use Rattle.std.proofs.Common.{arith, add-one}
use native.Mathlib.Nat.{pow-suc, pow-le-pow_right}
use Rattle.files.specs.Format.{number}

module _ (k : ℕ) (file : List ℕ) (i : ℕ) where
  -- the bytes from a place on are read
  pub record Reading (place value : ℕ) : Type 0 where
    pub so_far : value ≡ number (k - place) file (i + place)
    pub fits : value < 256 ^ (k - place)

  pub none_read : Reading k 0
  unfolding number
  none_read = let none : k - k ≡ 0 = omega arith in record { so_far = rw none refl; fits = rw none (omega arith) }

  module _ {place value : ℕ} (r : Reading place value) where
    -- one byte more still fits
    pub room : k ≤ 8 → 0 < place → value < 256 ^ 7
    room few more =
        let most : k - place ≤ 7 = omega arith in
        let p : 256 ^ (k - place) ≤ 256 ^ 7 = pow-le-pow_right (omega arith) most in
        omega (arith, r.fits)

    pub byte_read : 0 < place → place ≤ k → get_or file (i + (place - 1)) 0 < 256
        → Reading (place - 1) (value * 256 + get_or file (i + (place - 1)) 0)
    unfolding number
    byte_read more within small =
        let one : k - (place - 1) ≡ k - place + 1 = omega arith in
        let next : i + (place - 1) + 1 ≡ i + place = omega arith in
        record {
          so_far = rw (one, add-one (k - place), next, ← r.so_far) (omega arith);
          fits = rw (one, add-one (k - place), pow-suc 256 (k - place)) (omega (arith, r.fits));
        }
