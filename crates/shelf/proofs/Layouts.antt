-- What Point 7 says of the two layouts, as theorems. Nothing here needs the limits of the calls.
use Rattle.std.specs.Prelude.{ℕ, ◌+◌, ◌*◌, ◌/◌, ◌%◌, ◌^◌, ◌<◌, ◌≡◌, length, get_or}
use Rattle.std.proofs.Common.{ap, ◌∙◌, div-add-mod', ext_get_or}
use native.Mathlib.Omega.{arith}
use mathlib.Core.List.{List, Permᴰ}
use Rattle.shelf.specs.Planes.{upto, entry_bytes, byte, planes, log_bytes, joined, entry_at, entry_count, entries_of}
use Rattle.shelf.specs.Grid.{row_inside, column_inside, moved, moved_cell}
use Rattle.shelf.specs.Bytes.{same_made}
use Rattle.shelf.proofs.Bytes.{joined_bytes}
use Rattle.shelf.specs.Layouts.{Below, by_plane, byte_again, eight, length_again, length_entries, length_planes, occurrences, reordered, same_occurrences}

-- where each stored byte stands in the log; by `moved_inside` and `moved_back` every place is met once
pub moves : (entries : List ℕ) (place : ℕ) → place < entry_bytes * length entries
    → get_or (planes entries) place 0 ≡ get_or (log_bytes entries) (moved entry_bytes (length entries) place) 0
moves entries place h = rw eight at (moved_cell byte (upto entry_bytes) entries place 0 0 (rw eight h))

-- "each as often"
pub as_often : (entries : List ℕ) (b : ℕ) → occurrences b (planes entries) ≡ occurrences b (log_bytes entries)
as_often entries b = same_occurrences b (reordered entries)

-- ---- "Doing both, from either side, returns the start."

module _ (entries : List ℕ) (fit : Below (2 ^ 64) entries) where
  pub count_again : entry_count (planes entries) ≡ length entries
  count_again = rw (length_planes entries) (omega arith)

  pub entry_again : (j : ℕ) → j < length entries → entry_at (length entries) (planes entries) j ≡ get_or entries j 0
  entry_again j h =
      ap joined
      (same_made (λ p. get_or (planes entries) (p * length entries + j) 0) (λ p. byte p (get_or entries j 0)) entry_bytes (λ p hp. by_plane entries p j hp h))
      ∙ joined_bytes (get_or entries j 0) (fit j)

module _ (stored : List ℕ) (fit : Below 256 stored) (even : length stored % entry_bytes ≡ 0) where
  abbrev count : ℕ
  count = entry_count stored

  place_again : (i : ℕ) → i < entry_bytes * count → get_or (planes (entries_of stored)) i 0 ≡ get_or stored i 0
  place_again i h = rw (div-add-mod' i count) at
      (byte_again stored fit even (i / count) (i % count) (row_inside entry_bytes count i h) (column_inside entry_bytes count i h))

  pub planes_again : planes (entries_of stored) ≡ stored
  planes_again =
      ext_get_or 0 (planes (entries_of stored)) stored (length_again stored fit even)
      (λ i h. place_again i (rw (length_planes (entries_of stored), length_entries stored) at h))

  -- and so of stored bytes that are read
  pub read_reordered : Permᴰ stored (log_bytes (entries_of stored))
  read_reordered = rw planes_again at (reordered (entries_of stored))
