-- The two calls of Point 7: the answer, and what was lent for the output, for every argument.
use Rattle.std.specs.Prelude.{ℕ, ◌*◌, ◌%◌, not, List, [], ◌∷◌, ◌++◌, ltb, eqb, length, drop}
use Rattle.model.specs.declared.Answer.TheVariants.{Refused, Done}
use Rattle.model.specs.declared.Refusal.TheVariants.{BadPlan, ShortTable, OddLength}
use Rattle.model.specs.TurnedAway.{Ground, ◌when◌, unless}
use Rattle.model.specs.Scripts.{Played, ended}
use Rattle.shelf.specs.Planes.{entry_bytes, entry_count, planes, entries_of}

-- "1 above 1,024 entries or 8,192 stored bytes"
abbrev pub most_entries : ℕ
most_entries = 1024

abbrev pub most_stored : ℕ
most_stored = 8192

-- "then 2 if the output is short"
abbrev pub planes_refusals : List ℕ → List ℕ → List Ground
planes_refusals entries output =
    BadPlan when ltb most_entries (length entries) ∷ ShortTable when ltb (length output) (entry_bytes * length entries) ∷ []

-- "then 24 "odd length" if stored bytes are no multiple of 8; then 2"
abbrev pub entries_refusals : List ℕ → List ℕ → List Ground
entries_refusals stored output =
    BadPlan when ltb most_stored (length stored) ∷ OddLength when not (eqb (length stored % entry_bytes) 0)
    ∷ ShortTable when ltb (length output) (entry_count stored) ∷ []

-- "Output past the result is not touched."
abbrev pub over : List ℕ → List ℕ → List ℕ
over result output = result ++ drop (length result) output

-- what a call answers and leaves in the output, by its refusals and its result: turned away, "nothing is written"
unfoldable pub rearranged : List Ground → List ℕ → List ℕ → Played (List ℕ)
rearranged refusals result output = unless (λ why. ended (Refused why) output) refusals (ended Done (over result output))

-- "We want the rearrangement from entries to planes and its inverse."
abbrev pub to_planes : List ℕ → List ℕ → Played (List ℕ)
to_planes entries output = rearranged (planes_refusals entries output) (planes entries) output

abbrev pub to_entries : List ℕ → List ℕ → Played (List ℕ)
to_entries stored output = rearranged (entries_refusals stored output) (entries_of stored) output
