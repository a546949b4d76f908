-- Document 02, Point 4: "Keep the coin table eight entries to a byte, 64 bytes in all, with the last bit unused."
use Rattle.std.specs.Prelude.{ℕ, zero, suc, ◌/◌, ◌%◌, ◌^◌, ◌≡◌, List, [], ◌∷◌, ◌++◌, reverse}
use Rattle.model.specs.Coins.{entries, coin_entries}

-- so many bits of a byte, the lowest first
unfoldable pub bits : ℕ → ℕ → List ℕ
bits zero byte = []
bits (suc k) byte = bits k byte ++ (byte / (2 ^ k) % 2 ∷ [])

-- the entries that bytes hold, "eight entries to a byte": the first of them is the lowest bit
unfoldable pub unpacked : List ℕ → List ℕ
unpacked [] = []
unpacked (byte ∷ rest) = bits 8 byte ++ unpacked rest

-- bytes that hold the whole table, and 0 in the last bit
abbrev pub Packed : List ℕ → Type 0
Packed bytes = unpacked bytes ≡ reverse (entries coin_entries) ++ (0 ∷ [])
