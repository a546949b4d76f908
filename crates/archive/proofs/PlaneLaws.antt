-- A byte of a plane, and a store of which one more plane is written.
use Prim.Native.Nat.{ℕ, zero, suc, ◌+◌, ◌-◌, ◌*◌, ◌/◌, ◌%◌, ◌^◌, ◌<◌}
use mathlib.Core.Path.{◌≡◌, refl, sym, ◌∙◌}
use mathlib.Core.List.{List, [], ◌∷◌, ◌++◌, flat_map, append_assoc, append-nil}
use native.Mathlib.Nat.{pow-suc, mul-suc, zero-mul, suc-mul}
use native.Mathlib.Numerals.{add-one}
use lib.ListN.{length, get_or, take, drop}
use lib.Pow.{pow-add}
use lib.Seq.{take_at, drop_at, drop-drop}
use Rattle.model.proofs.Grown.{length_grown}
use Rattle.shelf.specs.Planes.{upto, byte, plane}
use Rattle.shelf.specs.Grid.{getD_mapped, length_listed}
use Rattle.shelf.specs.Bytes.{upto_grows}

-- eight places of a bit are one of a byte
by_bytes : (k : ℕ) → 2 ^ (8 * k) ≡ 256 ^ k
by_bytes zero = refl
by_bytes (suc k) = rw (mul-suc 8 k, pow-add 2 (8 * k) 8, by_bytes k, pow-suc 256 k)

-- a byte of a plane, shifted down and cut
pub plane_byte : (number : ℕ) (entries : List ℕ) (j : ℕ) → j < length entries
    → get_or entries j 0 / 2 ^ (8 * (7 - number)) % 256 ≡ get_or (plane entries number) j 0
plane_byte number entries j inside = rw (by_bytes (7 - number)) (sym (getD_mapped (byte number) entries j 0 inside))

module _ (entries : List ℕ) where
  -- the first n planes
  abbrev pub first : ℕ → List ℕ
  first n = flat_map (plane entries) (upto n)

  length_first : (n : ℕ) → length (first n) ≡ n * length entries
  length_first n = length_listed byte (upto n) entries ∙ rw (length_grown upto_grows n)

  first_more : (n : ℕ) → first (suc n) ≡ first n ++ plane entries n
  unfolding upto flat_map
  first_more n = go (upto n)
    where
      go : (l : List ℕ) → flat_map (plane entries) (l ++ (n ∷ [])) ≡ flat_map (plane entries) l ++ plane entries n
      go [] = append-nil (plane entries n)
      go (p ∷ l) = rw (go l) (sym (append_assoc (plane entries p) (flat_map (plane entries) l) (plane entries n)))

  module _ (was : List ℕ) where
    -- no plane yet
    pub none_stored : was ≡ first 0 ++ drop (0 * length entries) was
    unfolding upto flat_map
    none_stored = rw (zero-mul (length entries))

    -- one plane more, where it was lent
    pub plane_stored : (number : ℕ) {now part : List ℕ} → now ≡ first number ++ drop (number * length entries) was → part ≡ plane entries number
        → take (number * length entries) now ++ (part ++ drop (length entries) (drop (number * length entries) now))
        ≡ first (number + 1) ++ drop ((number + 1) * length entries) was
    plane_stored number so_far done =
        rw (
          so_far,
          done,
          add-one number,
          suc-mul number (length entries),
          first_more number,
          append_assoc,
          take_at (first number) (drop (number * length entries) was) (number * length entries) (length_first number),
          drop_at (first number) (drop (number * length entries) was) (number * length entries) (length_first number),
          drop-drop,
        )
