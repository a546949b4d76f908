-- No report is cut: the rehearsal program's buffer of 1,600,000 bytes has room for that of any step file that it takes.
use Rattle.std.specs.Prelude.{ℕ, ◌≤◌, List, ◌++◌, ◌≡◌, length, drop}
use Rattle.std.proofs.Common.{arith, le_trans}
use Rattle.files.specs.Page.{page, print}
use Rattle.files.specs.Printed.{printed}
use Rattle.files.proofs.Fits.{report_fits}
use Rattle.files.specs.Rehearsal.{most, blank, blank_strip, rehearsal}

pub nothing_cut : (file l : List ℕ) → length file ≤ 65536 → 1600000 ≤ length l
    → print (page l 0) (rehearsal file) ≡ page (rehearsal file ++ drop (length (rehearsal file)) l) (length (rehearsal file))
unfolding rehearsal
nothing_cut file l h g =
    printed l (rehearsal file) (le_trans (report_fits most file blank blank_strip (omega arith)) (omega arith))
