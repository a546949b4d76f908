-- The numbers of the kinds of records.
use Rattle.std.specs.Prelude.{ℕ, ◌<◌, ◌≡◌, Result, Ok, Err}
use Rattle.model.specs.declared.Refusal.{Refusal}
use Rattle.model.specs.declared.Refusal.TheVariants.{UnknownKind}
use Rattle.files.specs.declared.Read.{Read}
use Rattle.files.specs.Format.{last_kind, read}
use Rattle.format.specs.declared.Kind.{Kind}
use Rattle.format.specs.declared.Kind.TheVariants.{Opening, Submit, Relay, Begin, Hear, Advance, Crash, RunOn, WideOpening, WideHear}

abbrev pub kind_number : Kind → ℕ
kind_number Opening = 0
kind_number Submit = 1
kind_number Relay = 2
kind_number Begin = 3
kind_number Hear = 4
kind_number Advance = 5
kind_number Crash = 6
kind_number RunOn = 7
kind_number WideOpening = 8
kind_number WideHear = 9

-- a number is that of a kind, or "19 unknown kind"
abbrev pub Known : ℕ → Result Kind Refusal → Type 0
Known k (Ok kind) = kind_number kind ≡ k
Known k (Err why) = (last_kind < k) × (why ≡ UnknownKind)

-- "At 19 or 20 reading stops": the place stays
abbrev pub staying : ℕ → Result Read Refusal → Read
staying at (Ok r) = r
staying at (Err why) = read (Err why) at
