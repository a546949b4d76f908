-- An entry of which one more byte is read.
use Prim.Native.Nat.{ℕ, ◌+◌, ◌*◌, ◌^◌, ◌<◌, ◌≤◌}
use mathlib.Core.Path.{◌≡◌, refl}
use mathlib.Core.List.{List, map}
use native.Mathlib.Nat.{pow-suc, pow-le-pow_right}
use native.Mathlib.Numerals.{add-one}
use native.Mathlib.Omega.{arith}
use lib.ListN.{get_or}
use Rattle.shelf.specs.Planes.{upto, entry_bytes, joined}
use Rattle.shelf.specs.Bytes.{joined_more}

module _ (count place : ℕ) (stored : List ℕ) where
  -- so many bytes are read, from the highest on
  pub record Reading (number value : ℕ) : Type 0 where
    pub so_far : value ≡ joined (map (λ p. get_or stored (p * count + place) 0) (upto number))
    pub fits : value < 256 ^ number

  pub none_read : Reading 0 0
  unfolding upto
  none_read = record { so_far = refl; fits = omega arith }

  module _ {number value : ℕ} (r : Reading number value) where
    -- one byte more still fits
    pub room : number < entry_bytes → value < 256 ^ 7
    room more =
        let most : number ≤ 7 = omega arith in
        let p : 256 ^ number ≤ 256 ^ 7 = pow-le-pow_right (omega arith) most in
        omega (arith, r.fits)

    pub byte_read : get_or stored (number * count + place) 0 < 256 → Reading (number + 1) (value * 256 + get_or stored (number * count + place) 0)
    byte_read small = record {
      so_far = rw (add-one number, joined_more (λ p. get_or stored (p * count + place) 0) number, ← r.so_far);
      fits = rw (add-one number, pow-suc 256 number) (omega (arith, r.fits));
    }
