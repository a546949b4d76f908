-- Document 01, "Rehearsal program": the lines of its report. "Single spaces, none at line ends."
use Rattle.std.specs.Prelude.{ℕ, zero, suc, Bool, not, List, [], ◌++◌, eqb}
use Rattle.model.specs.declared.Numbers.{Numbers}
use Rattle.model.specs.declared.Refusal.{Refusal}
use Rattle.model.specs.Tests.{if}
use Rattle.model.specs.Answers.{refusal_number}
use Rattle.model.specs.Rack.{Replica}
use Rattle.tables.specs.Layout.{record_at}
use Rattle.tables.specs.View.{log_in}
use Rattle.files.specs.Text.{text, decimal}

-- "It writes `controllers N spare F` at the accepted opening"
abbrev pub opened_line : Numbers → List ℕ
opened_line N = text "controllers " ++ (decimal N.n ++ (text " spare " ++ (decimal N.f ++ text "\n")))

-- "`refused K R` for each refused record (K its number from 1, openings counted; R the refusal)"
abbrev pub refused_line : ℕ → Refusal → List ℕ
refused_line k why = text "refused " ++ (decimal k ++ (text " " ++ (decimal (refusal_number why) ++ text "\n")))

-- "each entry in decimal, `-` for empty"
abbrev pub entry_text : ℕ → List ℕ
entry_text x = if (eqb x 0) (text " -") (text " " ++ decimal x)

unfoldable pub entries_text : ℕ → (ℕ → ℕ) → List ℕ
entries_text zero entry = []
entries_text (suc s) entry = entries_text s entry ++ entry_text (entry s)

abbrev pub light : Bool → List ℕ
light crashed = if crashed (text " dark ") (text " lit ")

-- "`bench`, its number, `lit` or `dark`, the number of closed slots, then each entry"
abbrev pub bench_line : ℕ → Bool → ℕ → (ℕ → ℕ) → List ℕ
bench_line c crashed closed entry = text "bench " ++ (decimal c ++ (light crashed ++ (decimal closed ++ (entries_text closed entry ++ text "\n"))))

-- "a line per controller"
unfoldable pub bench_lines : ℕ → (ℕ → Replica) → List ℕ
bench_lines zero at = []
bench_lines (suc c) at = let r = at c in bench_lines c at ++ bench_line c r.crashed r.closed r.entry

-- ---- the same from the records and logs

abbrev pub bench_in : Numbers → List ℕ → List ℕ → ℕ → List ℕ
bench_in N words orders c = let k = record_at words c in bench_line c (not (eqb k.crashed 0)) k.slot (log_in N orders c)

unfoldable pub benches_in : Numbers → List ℕ → List ℕ → ℕ → List ℕ
benches_in N words orders zero = []
benches_in N words orders (suc c) = benches_in N words orders c ++ bench_in N words orders c
