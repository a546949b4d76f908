-- An answer's values for callers in C: each has its place, which is 0 where the answer has none.
use Rattle.std.specs.Prelude.{ℕ, List, get_or}
use Rattle.model.specs.declared.Numbers.{Numbers}

abbrev pub value : ℕ → List ℕ → ℕ
value i values = get_or values i 0

-- the run numbers of an opening
abbrev pub numbers_in : List ℕ → Numbers
numbers_in values = record { n = value 0 values; f = value 1 values; slots = value 2 values; phases = value 3 values; room = value 4 values }
