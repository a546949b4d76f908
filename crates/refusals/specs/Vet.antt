-- What every step but a crash asks first, in the terms of numbers, lengths and words: refusals 3, 2, 4, 5.
use Rattle.std.specs.Prelude.{ℕ, ◌*◌, Bool, not, ◌||◌, List, [], ◌∷◌, leb, ltb, eqb, Result, Ok, Err, ⊤}
use Rattle.model.specs.declared.Refusal.{Refusal}
use Rattle.model.specs.declared.Numbers.{Numbers}
use Rattle.model.specs.declared.Refusal.TheVariants.{ShortTable, SpoiledRecord, NoSuchReplica, Crashed}
use Rattle.tables.specs.declared.Lengths.{Lengths}
use Rattle.model.specs.Limits.{limited}
use Rattle.model.specs.TurnedAway.{Ground, ◌when◌, unless}
use Rattle.tables.specs.Layout.{Tables, known_in, record_at}
use Rattle.tables.specs.Checks.{lengths, long, any_spoiled}

-- 3
abbrev pub run_spoiled : Numbers → List ℕ → Bool
run_spoiled N words = not (limited N) || (ltb N.room (known_in words) || any_spoiled N words)

-- 2, 4, 5; c acts; d is a second replica that the step names, or c again
abbrev pub next_asked : Numbers → ℕ → ℕ → Lengths → ℕ → List ℕ → List Ground
next_asked N c d l strip words =
    ShortTable when not (long N l) ∷ ShortTable when ltb strip (N.slots * N.phases) ∷ NoSuchReplica when (leb N.n c || leb N.n d)
    ∷ Crashed when not (eqb (record_at words c).crashed 0) ∷ []

abbrev pub first_asked : Numbers → ℕ → ℕ → Lengths → ℕ → List ℕ → List Ground
first_asked N c d l strip words = SpoiledRecord when run_spoiled N words ∷ next_asked N c d l strip words

unfoldable pub vetted : Numbers → ℕ → ℕ → Lengths → ℕ → List ℕ → Result ⊤ Refusal
vetted N c d l strip words = unless Err (next_asked N c d l strip words) (Ok tt)

-- the first refusals of a step of c that names d: 3, 2, 4, 5
unfoldable pub first_vetted : Numbers → ℕ → ℕ → ℕ → Tables → Result ⊤ Refusal
first_vetted N c d strip t = unless Err (first_asked N c d (lengths t) strip t.words) (Ok tt)
