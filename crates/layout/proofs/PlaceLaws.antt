-- The numbers on the way to a cell are small: every sum and product that an address is made of fits a word of the machine.
use Prim.Native.Nat.{ℕ, ◌+◌, ◌-◌, ◌*◌, ◌≤◌, ◌<◌}
use native.Mathlib.Omega.{arith}
use native.Mathlib.Nat.{le_trans}
use mathlib.Core.Bool.{true}
use mathlib.Core.Path.{◌≡◌}
use lib.Arith.{digits_lt}
use mir.Syntax.{w64}
use mir.Val.{Fits}
use Rattle.model.specs.declared.Numbers.{Numbers}
use Rattle.model.specs.declared.Sort.{Sort}
use Rattle.model.specs.Limits.{most_phases}
use Rattle.model.specs.Rules.{phase_in}
use Rattle.tables.specs.Layout.{row, slot_row, message_rows, ballot_rows, heard_base}
use Rattle.tables.specs.Bounds.{Bounds, most_cells, ballot_rows_few, ballots_few, message_rows_few, words_few}
use Rattle.tables.specs.Addresses.{Within, phase_low, row_low, spot_in}

-- every number on the way to (s * rows + q) * n + d, and from there to the cell behind a base
record Way (base rows n s q d : ℕ) : Type 0 where
  pub line : Fits w64 (s * rows + q)
  pub block : Fits w64 ((s * rows + q) * n)
  pub cell : Fits w64 ((s * rows + q) * n + d)
  pub end : Fits w64 (base + ((s * rows + q) * n + d))

-- they fit where the last cell of the section is small
way : (base slots rows n s q d : ℕ) → s < slots → q < rows → d < n → slots * rows ≤ most_cells → base + slots * rows * n ≤ most_cells → Way base rows n s q d
way base slots rows n s q d hs hq hd a b =
    let l : s * rows + q < slots * rows = digits_lt hs hq in
    let c = spot_in slots rows n s q d hs hq hd in
    record { line = omega arith; block = omega arith; cell = omega arith; end = omega arith }

module _ (N : Numbers) {so : Sort} {s p d : ℕ} (m : Bounds N × Within N so s p d) where
  -- to a heard mark, by its parts as they were computed
  module _ {b l k q : ℕ} (eb : b ≡ heard_base N) (el : l ≡ slot_row N s) (ek : k ≡ message_rows N) (eq : q ≡ row so p) where
    to_mark : Way b k N.n l q d
    to_mark = let w = m.1 in
        rw (eb, el, ek, eq) (way _ N.slots _ N.n s (row so p) d w.slot (row_low N so p w.phase) w.sender
        (le_trans (message_rows_few N m.0) (omega arith)) (words_few N m.0))

    pub mark_line : Fits w64 (l * k + q)
    mark_line = to_mark.line

    pub mark_block : Fits w64 ((l * k + q) * N.n)
    mark_block = to_mark.block

    pub mark_cell : Fits w64 ((l * k + q) * N.n + d)
    mark_cell = to_mark.cell

    pub mark_end : Fits w64 (b + ((l * k + q) * N.n + d))
    mark_end = to_mark.end

  -- to a state or vote
  module _ {l k r q : ℕ} (el : l ≡ slot_row N s) (ek : k ≡ ballot_rows N) (er : r ≡ row so p) (eq : q ≡ r - 2) where
    to_ballot : Way 0 k N.n l q d
    to_ballot = let w = m.1 in
        let low = row_low N so p w.phase in
        let some = m.0.phases_some in
        let few = ballots_few N m.0 in
        rw (eq, er, el, ek) (way 0 N.slots _ N.n s (row so p - 2) d w.slot (omega arith) w.sender
        (le_trans (ballot_rows_few N m.0) (omega arith)) (omega arith))

    pub ballot_line : Fits w64 (l * k + q)
    ballot_line = to_ballot.line

    pub ballot_block : Fits w64 ((l * k + q) * N.n)
    ballot_block = to_ballot.block

    pub ballot_end : Fits w64 ((l * k + q) * N.n + d)
    ballot_end = to_ballot.cell

-- a phase is small
pub row_small : (N : Numbers) → Bounds N → (so : Sort) (p : ℕ) → phase_in N so p ≡ true → p ≤ most_phases
row_small N b so p e = let l = phase_low N so p e in let h = b.phases_few in omega arith
