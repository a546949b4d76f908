-- Document 02, "More phases unless told otherwise" and "Longer bands": the rehearsal program's whole reports of some step files.
use Rattle.std.specs.Prelude.{ℕ, ◌*◌, List, [], ◌∷◌, ◌++◌, ◌≡◌, refl, replicate}
use Rattle.model.specs.declared.Numbers.{Numbers}
use Rattle.model.specs.Tests.{if, any}
use Rattle.model.specs.Limits.{limited}
use Rattle.model.specs.Coins.{filled_cells}
use Rattle.model.specs.Rack.{round_in}
use Rattle.model.specs.TurnedAway.{unless}
use Rattle.model.specs.Rules.{phase_in, hear_rule, own_rule}
use Rattle.model.specs.Scripts.{play as make}
use Rattle.tables.specs.Layout.{known_in, record_at, row, words_need, orders_need, ballots_need}
use Rattle.tables.specs.Checks.{long, misplaced, astray, overcounted, spoiled, any_spoiled}
use Rattle.tables.specs.View.{only, word_in, in_run, guarded, letter}
use Rattle.tables.specs.Write.{write}
use Rattle.tables.specs.Calls.{tables, judge, stepped, opened, open_rack, called}
use Rattle.files.specs.Format.{number, step_kind, is_wide, step_length, act_at, step_at, file_record}
use Rattle.files.specs.Play.{called_in_place, turned, turn, play}
use Rattle.files.specs.Text.{text, digits}
use Rattle.files.specs.Lines.{entries_text, bench_lines}
use Rattle.files.specs.Reported.{said_line, line_on, lines, whole, report}
use Rattle.files.specs.Rehearsal.{blank, blank_strip, rehearsal}

-- ---- phases

-- an opening of a rack of three with this phase limit; controller 0 then asks for 1's state of phase 16, and of phase 17
abbrev file : ℕ → List ℕ
file p = 0 ∷ 3 ∷ 1 ∷ 2 ∷ p ∷ 4 ∷ 0 ∷ 0 ∷ 0 ∷ 4 ∷ 0 ∷ 1 ∷ 2 ∷ 0 ∷ 16 ∷ 4 ∷ 0 ∷ 1 ∷ 2 ∷ 0 ∷ 17 ∷ []

-- a run of 16 phases: nothing was sent in phase 16, and there is no phase 17
abbrev with_16 : List ℕ
with_16 = text "controllers 3 spare 1\nrefused 2 17\nrefused 3 16\nbench 0 lit 0\nbench 1 lit 0\nbench 2 lit 0\n"

-- no run was opened
abbrev refused : List ℕ
refused = text "refused 1 2\nrefused 2 21\nrefused 3 21\n"

-- "There 0 now stands for 16"; "2 in the rehearsal program now begins above 16 phases"
pub reports : (rehearsal (file 0) ≡ with_16) × (rehearsal (file 16) ≡ with_16) × (rehearsal (file 17) ≡ refused)
unfolding rehearsal blank blank_strip report whole lines line_on said_line play turn turned called_in_place file_record step_kind is_wide
    step_length step_at act_at number called stepped judge opened open_rack write make round_in unless if any limited filled_cells phase_in
    hear_rule own_rule known_in record_at row long misplaced astray overcounted spoiled any_spoiled only word_in in_run guarded letter digits
    entries_text bench_lines
reports = (refl, refl, refl)

-- ---- bands

-- openings of a rack of three with so many slots, by the old kind and by the new one, low byte first
abbrev old_opening : ℕ → List ℕ
old_opening slots = 0 ∷ 3 ∷ 1 ∷ slots ∷ 4 ∷ 4 ∷ 0 ∷ 0 ∷ 0 ∷ []

abbrev new_opening : ℕ → ℕ → List ℕ
new_opening low high = 8 ∷ 3 ∷ 1 ∷ low ∷ high ∷ 4 ∷ 4 ∷ 0 ∷ 0 ∷ 0 ∷ []

-- controller 0 asks for 1's state of slot 1, by both kinds, and of slot 256
abbrev hears : List ℕ
hears = 4 ∷ 0 ∷ 1 ∷ 2 ∷ 1 ∷ 1 ∷ 9 ∷ 0 ∷ 1 ∷ 2 ∷ 1 ∷ 0 ∷ 1 ∷ 9 ∷ 0 ∷ 1 ∷ 2 ∷ 0 ∷ 1 ∷ 1 ∷ []

-- the largest that its tables are for is 16 slots; up to 1,024 are within the limits, 1,025 are not
abbrev band_file : List ℕ
band_file =
    new_opening 1 4 ++ (new_opening 0 4 ++ (new_opening 17 0 ++ (old_opening 255 ++ (old_opening 65 ++ (old_opening 17 ++ (new_opening 16 0 ++ hears))))))

-- "1 now begins at slot count 1,025", and the program's tables stay; nothing was sent of slot 1, and there is no slot 256
pub band_report : rehearsal band_file ≡ text "refused 1 1\nrefused 2 2\nrefused 3 2\nrefused 4 2\nrefused 5 2\nrefused 6 2\ncontrollers 3 spare 1\n"
    ++ text "refused 8 17\nrefused 9 17\nrefused 10 16\nbench 0 lit 0\nbench 1 lit 0\nbench 2 lit 0\n"
unfolding rehearsal blank blank_strip report whole lines line_on said_line play turn turned called_in_place file_record step_kind is_wide
    step_length step_at act_at number called stepped judge opened open_rack write make round_in unless if any limited filled_cells phase_in
    hear_rule own_rule known_in record_at row long misplaced astray overcounted spoiled any_spoiled only word_in in_run guarded letter digits
    entries_text bench_lines
band_report = refl

-- "case 'slots 65' of document 01 now opens, by either kind", where the tables are for as many
abbrev of_65 : Numbers
of_65 = record { n = 3; f = 1; slots = 65; phases = 4; room = 4 }

abbrev report_65 : List ℕ → List ℕ
report_65 file = report of_65 file (tables (replicate (words_need of_65) 0) (replicate (orders_need of_65) 0) (replicate (ballots_need of_65) 0))
    (replicate (of_65.slots * of_65.phases) 0)

abbrev all_lit : List ℕ
all_lit = text "controllers 3 spare 1\nbench 0 lit 0\nbench 1 lit 0\nbench 2 lit 0\n"

pub slots_65_open : (report_65 (old_opening 65) ≡ all_lit) × (report_65 (new_opening 65 0) ≡ all_lit)
unfolding report whole lines line_on said_line play turn turned called_in_place file_record step_kind is_wide step_length step_at act_at number called
    opened open_rack make round_in unless if any limited filled_cells known_in record_at row long misplaced astray overcounted spoiled any_spoiled only digits
    entries_text bench_lines
slots_65_open = (refl, refl)
