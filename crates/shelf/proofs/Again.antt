-- "Doing both, from either side, returns the start": of entries, by their number and each of them.
use Rattle.std.specs.Prelude.{ℕ, ◌^◌, ◌≡◌}
use Rattle.std.proofs.Common.{sym, ◌∙◌, ext_get_or}
use mathlib.Core.List.{List}
use Rattle.shelf.specs.Planes.{planes, entries_of}
use Rattle.shelf.specs.Layouts.{Below, by_entry, length_entries}
use Rattle.shelf.proofs.Layouts.{count_again, entry_again}

module _ (entries : List ℕ) (fit : Below (2 ^ 64) entries) where
  pub entries_again : entries_of (planes entries) ≡ entries
  entries_again =
      let same = length_entries (planes entries) ∙ count_again entries fit in
      ext_get_or 0 (entries_of (planes entries)) entries same
      (λ j h. by_entry (planes entries) j (rw (sym (length_entries (planes entries))) h)
      ∙ rw (count_again entries fit) (entry_again entries fit j (rw same at h)))
