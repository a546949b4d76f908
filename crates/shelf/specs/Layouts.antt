-- What Point 7 says of the two layouts, as theorems. Nothing here needs the limits of the calls.
use Rattle.std.specs.Prelude.{ℕ, ◌+◌, ◌*◌, ◌%◌, ◌<◌, ◌≡◌, refl, eqb, length, get_or}
use Rattle.std.proofs.Common.{◌∙◌, arith}
use mathlib.Core.List.{List, [], ◌∷◌, Permᴰ}
use Rattle.std.proofs.Math.Nat.{suc-sub-suc}
use Rattle.model.specs.Tests.{bit}
use Rattle.model.proofs.Grown.{length_grown, getD_grown}
use Rattle.shelf.specs.Planes.{upto, entry_bytes, byte, planes, log_bytes, entry_at, entry_count, entries_of}
use Rattle.shelf.specs.Grid.{length_listed, getD_listed, transposed}
use Rattle.shelf.specs.Bytes.{upto_grows, map_grows, byte_joined}

-- every number of a list is below a bound, as the machine's types have it: entries are below 2^64 and bytes below 256
abbrev pub Below : ℕ → List ℕ → Type 0
Below bound l = (k : ℕ) → get_or l k 0 < bound

pub eight : length (upto entry_bytes) ≡ entry_bytes
eight = length_grown upto_grows entry_bytes

pub length_planes : (entries : List ℕ) → length (planes entries) ≡ entry_bytes * length entries
length_planes entries = length_listed byte (upto entry_bytes) entries ∙ rw eight

pub length_entries : (stored : List ℕ) → length (entries_of stored) ≡ entry_count stored
length_entries stored = length_grown (map_grows (entry_at (entry_count stored) stored)) (entry_count stored)

-- byte j of plane p
pub by_plane : (entries : List ℕ) (p j : ℕ) → p < entry_bytes → j < length entries
    → get_or (planes entries) (p * length entries + j) 0 ≡ byte p (get_or entries j 0)
by_plane entries p j hp hj = getD_listed byte (upto entry_bytes) entries p j 0 0 (rw eight hp) hj ∙ rw (getD_grown upto_grows entry_bytes p hp)

-- entry j
pub by_entry : (stored : List ℕ) (j : ℕ) → j < entry_count stored → get_or (entries_of stored) j 0 ≡ entry_at (entry_count stored) stored j
by_entry stored j h = getD_grown (map_grows (entry_at (entry_count stored) stored)) (entry_count stored) j h

-- ---- "the stored bytes are the log's own, each as often, reordered"

-- a permutation, in the library's inductive sense (steps that swap two neighbours), so nothing is asked of what the bytes are
pub reordered : (entries : List ℕ) → Permᴰ (planes entries) (log_bytes entries)
reordered entries = transposed byte (upto entry_bytes) entries

unfoldable pub occurrences : ℕ → List ℕ → ℕ
occurrences b [] = 0
occurrences b (x ∷ l) = bit (eqb x b) + occurrences b l

pub same_occurrences : (b : ℕ) {l m : List ℕ} → Permᴰ l m → occurrences b l ≡ occurrences b m
unfolding occurrences
same_occurrences b Permᴰ.nil = refl
same_occurrences b (Permᴰ.cons e d) = rw (e, same_occurrences b d)
same_occurrences b (Permᴰ.swap e e') = rw (e, e') (omega arith)
same_occurrences b (Permᴰ.trans d d') = same_occurrences b d ∙ same_occurrences b d'

-- ---- "Doing both, from either side, returns the start."

module _ (stored : List ℕ) (fit : Below 256 stored) (even : length stored % entry_bytes ≡ 0) where
  abbrev pub count : ℕ
  count = entry_count stored

  pub length_again : length (planes (entries_of stored)) ≡ length stored
  length_again = length_planes (entries_of stored) ∙ rw (length_entries stored) (omega arith)

  pub byte_again : (p j : ℕ) → p < entry_bytes → j < count → get_or (planes (entries_of stored)) (p * count + j) 0 ≡ get_or stored (p * count + j) 0
  byte_again p j hp hj =
      rw (length_entries stored) at (by_plane (entries_of stored) p j hp (rw (length_entries stored) hj))
      ∙ rw (by_entry stored j hj, ← suc-sub-suc 7 p) (byte_joined (λ q. get_or stored (q * count + j) 0) (λ q. fit (q * count + j)) entry_bytes p hp)
