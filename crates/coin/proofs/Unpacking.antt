-- An entry looked up in the packed table.
use Prim.Native.Nat.{ℕ, zero, suc, ◌+◌, ◌*◌, ◌/◌, ◌%◌, ◌^◌, ◌<◌}
use mathlib.Core.Path.{◌≡◌, refl, sym, ap, ◌∙◌}
use mathlib.Core.List.{List, [], ◌∷◌, reverse}
use native.Mathlib.Nat.{le_of_suc-le-suc}
use native.Mathlib.Omega.{arith}
use lib.ListN.{length, get_or, length-append, get_or-append}
use lib.Seq.{get_or-append-add}
use Rattle.model.specs.Coins.{entries, coin_entries, coin_entry}
use Rattle.model.proofs.Grown.{Grows, length_grown, getD_grown}
use Rattle.coin.specs.Law.{table_grows}
use Rattle.coin.specs.Packed.{bits, unpacked, Packed}

bits_grow : (byte : ℕ) → Grows (λ k. bits k byte) (λ k. byte / (2 ^ k) % 2)
unfolding bits
bits_grow byte = record { none = refl; more = λ k. refl }

length_unpacked : (bytes : List ℕ) → length (unpacked bytes) ≡ 8 * length bytes
unfolding unpacked
length_unpacked [] = refl
length_unpacked (byte ∷ rest) = rw (length-append, length_grown (bits_grow byte) 8, length_unpacked rest) (omega arith)

-- entry i of the eight in byte j
getD_unpacked : (bytes : List ℕ) (j i : ℕ) → j < length bytes → i < 8 → get_or (unpacked bytes) (8 * j + i) 0 ≡ get_or bytes j 0 / (2 ^ i) % 2
unfolding unpacked
getD_unpacked [] j i h g = absurd (omega arith)
getD_unpacked (byte ∷ rest) zero i h g =
    let here : 8 * 0 + i ≡ i = omega arith in
    rw here (get_or-append (bits 8 byte) (unpacked rest) 0 i (rw (length_grown (bits_grow byte) 8) g) ∙ getD_grown (bits_grow byte) 8 i g)
getD_unpacked (byte ∷ rest) (suc j) i h g =
    let past : length (bits 8 byte) + (8 * j + i) ≡ 8 * suc j + i = rw (length_grown (bits_grow byte) 8) (omega arith) in
    rw past at (get_or-append-add (bits 8 byte) (unpacked rest) (8 * j + i) 0) ∙ getD_unpacked rest j i (le_of_suc-le-suc h) g

module _ (coins : List ℕ) (whole : Packed coins) where
  -- "64 bytes in all"
  pub packed_length : length coins ≡ 64
  packed_length =
      let all = ap length whole ∙ length-append (reverse (entries coin_entries)) (0 ∷ []) in
      omega (arith, length_unpacked coins, all, length_grown table_grows coin_entries)

  pub read_entry : (place : ℕ) → place < coin_entries → get_or coins (place / 8) 0 / (2 ^ (place % 8)) % 2 ≡ coin_entry place
  read_entry place h =
      let digits : 8 * (place / 8) + place % 8 ≡ place = omega arith in
      sym (getD_unpacked coins (place / 8) (place % 8) (omega (arith, packed_length)) (omega arith))
      ∙ rw (digits, whole) (get_or-append (reverse (entries coin_entries)) (0 ∷ []) 0 place (omega (arith, length_grown table_grows coin_entries)))
      ∙ getD_grown table_grows coin_entries place h
