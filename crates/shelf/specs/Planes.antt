-- Document 02, Point 7: a log laid out by byte plane, and the log that such bytes are.
use Rattle.std.specs.Prelude.{ℕ, zero, suc, ◌+◌, ◌-◌, ◌*◌, ◌/◌, ◌%◌, ◌^◌, length, get_or}
use mathlib.Core.List.{List, [], ◌∷◌, ◌++◌, map, flat_map, foldl}

-- 0, 1, .., n − 1
unfoldable pub upto : ℕ → List ℕ
upto zero = []
upto (suc n) = upto n ++ (n ∷ [])

-- bytes of an entry, which is a 64-bit number; the archive has a plane for each
abbrev pub entry_bytes : ℕ
entry_bytes = 8

-- the byte of an entry that plane p keeps: plane 0 the highest, plane 7 the lowest
abbrev pub byte : ℕ → ℕ → ℕ
byte p entry = entry / 256 ^ (7 - p) % 256

abbrev pub plane : List ℕ → ℕ → List ℕ
plane entries p = map (byte p) entries

-- "The archive keeps logs by byte plane: the highest byte of every entry first, then the next, to the eighth."
abbrev pub planes : List ℕ → List ℕ
planes entries = flat_map (plane entries) (upto entry_bytes)

-- an entry's own bytes, the highest first, and a log's: entry after entry
abbrev pub bytes : ℕ → List ℕ
bytes entry = map (λ p. byte p entry) (upto entry_bytes)

abbrev pub log_bytes : List ℕ → List ℕ
log_bytes entries = flat_map bytes entries

-- the number that such bytes make
abbrev pub joined : List ℕ → ℕ
joined = foldl (λ value b. value * 256 + b) 0

-- entry j of a log of so many entries that is stored by plane: byte j of every plane
abbrev pub entry_at : ℕ → List ℕ → ℕ → ℕ
entry_at count stored j = joined (map (λ p. get_or stored (p * count + j) 0) (upto entry_bytes))

-- how many entries such bytes are
abbrev pub entry_count : List ℕ → ℕ
entry_count stored = length stored / entry_bytes

-- "its inverse"
abbrev pub entries_of : List ℕ → List ℕ
entries_of stored = map (entry_at (entry_count stored) stored) (upto (entry_count stored))
