-- What the search for the next tag asks of a place, in the code's terms: by the base of the holders' masks and by the replica's log.
use Rattle.std.specs.Prelude.{ℕ, ◌+◌, Bool, not, ◌&&◌, List, length, eqb, get_or}
use Rattle.model.specs.Tests.{any}
use Rattle.tables.specs.Layout.{has_bit}

-- one of the entries is the tag
unfoldable pub logged_in : List ℕ → ℕ → Bool
logged_in log x = any (length log) (λ s. eqb (get_or log s 0) x)

-- place j has the bit of replica c, and its tag is not logged
abbrev pub waits_at : ℕ → List ℕ → ℕ → List ℕ → List ℕ → ℕ → Bool
waits_at holders log c ws os j = has_bit (get_or ws (holders + j) 0) c && not (logged_in log (get_or os j 0))
