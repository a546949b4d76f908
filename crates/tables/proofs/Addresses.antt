-- Laws of the cells' addresses: a message of the run stands inside its tables, and no two stand in one cell.
use Rattle.std.specs.Prelude.{ℕ, ◌-◌, ◌≤◌, ◌<◌, ◌≡◌}
use native.Mathlib.Omega.{arith}
use Rattle.tables.specs.Types.{Numbers, Sort}
use Rattle.tables.specs.Layout.{row, message_rows, ballot_rows, ballot_cell, heard_cell}
use Rattle.tables.specs.Layout.{words_need, ballots_need}
use Rattle.tables.specs.Addresses.{Within, one_row, one_spot, row_low, row_some, spot_in}

module _ (N : Numbers) where
  open N use {n, slots, phases}

  pub heard_in : (so : Sort) (s p d : ℕ) → Within N so s p d → heard_cell N so s p d < words_need N
  heard_in so s p d w = let h = spot_in slots (message_rows N) n s (row so p) d w.slot (row_low N so p w.phase) w.sender in omega arith

  pub ballot_in : 1 ≤ phases → (so : Sort) (s p d : ℕ) → Within N so s p d → ballot_cell N so s p d < ballots_need N
  ballot_in some so s p d w =
      let l = row_low N so p w.phase in
      spot_in slots (ballot_rows N) n s (row so p - 2) d w.slot (omega arith) w.sender

module _ (N : Numbers) where
  open N use {n, slots, phases}

  module _ (so : Sort) (s p d : ℕ) (so' : Sort) (s' p' d' : ℕ) (w : Within N so s p d) (w' : Within N so' s' p' d') where
    pub one_heard : heard_cell N so s p d ≡ heard_cell N so' s' p' d' → (so ≡ so') × (s ≡ s') × (p ≡ p') × (d ≡ d')
    one_heard e =
        let (slot, line, sender) = one_spot (message_rows N) n s (row so p) d s' (row so' p') d'
        (row_low N so p w.phase) (row_low N so' p' w'.phase) w.sender w'.sender (omega arith) in
        let (sort, phase) = one_row N so so' p p' w.phase w'.phase line in
        (sort, slot, phase, sender)

    -- states and votes: their phases begin at 1
    pub one_ballot : 1 ≤ p → 1 ≤ p' → ballot_cell N so s p d ≡ ballot_cell N so' s' p' d' → (so ≡ so') × (s ≡ s') × (p ≡ p') × (d ≡ d')
    one_ballot h h' e =
        let l = row_low N so p w.phase in
        let l' = row_low N so' p' w'.phase in
        let some = row_some N so p h w.phase in
        let some' = row_some N so' p' h' w'.phase in
        let (slot, line, sender) = one_spot (ballot_rows N) n s (row so p - 2) d s' (row so' p' - 2) d' (omega arith) (omega arith)
        w.sender w'.sender e in
        let (sort, phase) = one_row N so so' p p' w.phase w'.phase (omega arith) in
        (sort, slot, phase, sender)
