-- Two entries whose bytes are 01 .. 08 and 11 .. 18 in hexadecimal, in both layouts, and the limits, as the definitions compute them.
use Rattle.std.specs.Prelude.{◌≡◌, refl, ℕ, ◌*◌}
use mathlib.Core.List.{List, [], ◌∷◌, flat_map}
use Rattle.shelf.specs.Planes.{upto, entry_bytes, planes, log_bytes, entries_of}
use Rattle.shelf.specs.Calls.{most_entries, most_stored}

abbrev two : List ℕ
two = 72623859790382856 ∷ 1230066625199609624 ∷ []

abbrev by_plane : List ℕ
by_plane = 1 ∷ 17 ∷ 2 ∷ 18 ∷ 3 ∷ 19 ∷ 4 ∷ 20 ∷ 5 ∷ 21 ∷ 6 ∷ 22 ∷ 7 ∷ 23 ∷ 8 ∷ 24 ∷ []

abbrev by_entry : List ℕ
by_entry = 1 ∷ 2 ∷ 3 ∷ 4 ∷ 5 ∷ 6 ∷ 7 ∷ 8 ∷ 17 ∷ 18 ∷ 19 ∷ 20 ∷ 21 ∷ 22 ∷ 23 ∷ 24 ∷ []

pub two_stored : planes two ≡ by_plane
unfolding upto flat_map
two_stored = refl

pub two_bytes : log_bytes two ≡ by_entry
unfolding upto flat_map
two_bytes = refl

pub two_read : entries_of by_plane ≡ two
unfolding upto
two_read = refl

-- the longest log that is stored is the longest that is read
pub same_limit : most_stored ≡ entry_bytes * most_entries
same_limit = refl
