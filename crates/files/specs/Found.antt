-- What a read finds, what is said of a record, and which run is open.
use Rattle.model.specs.declared.Numbers.{Numbers}
use Rattle.model.specs.declared.Refusal.{Refusal}
use Rattle.model.specs.declared.Call.{Call}
use Rattle.model.specs.declared.Answer.{Answer}
use Rattle.std.specs.Prelude.{Bool}
use Rattle.std.specs.Option.{is_some}
pub use Rattle.std.specs.Prelude.{Option, None, Some, Result, Ok, Err}

-- the call of a record, none at the end of the file; or refusal 19 or 20
abbrev pub Found : Type 0
Found = Result (Option Call) Refusal

-- the answer to a record, none where the file has ended; or the refusal that reading stops with
abbrev pub Said : Type 0
Said = Result (Option Answer) Refusal

-- whether a run was opened
abbrev pub is_opened : Option Numbers → Bool
is_opened run = is_some run

-- and its numbers, all 0 if none was
abbrev pub run_numbers : Option Numbers → Numbers
run_numbers None = record { n = 0; f = 0; slots = 0; phases = 0; room = 0 }
run_numbers (Some N) = N
