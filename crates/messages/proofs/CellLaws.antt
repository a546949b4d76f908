-- The cell of a message of the run, as it was computed, is inside its memory.
use Prim.Native.Nat.{ℕ, ◌≤◌, ◌<◌}
use native.Mathlib.Omega.{arith}
use mathlib.Core.List.{List}
use mathlib.Core.Path.{◌≡◌}
use lib.ListN.{length}
use borrow.Author.Rules.{scaled_Fits}
use Rattle.model.specs.declared.Numbers.{Numbers}
use Rattle.model.specs.declared.Sort.{Sort}
use Rattle.tables.specs.Layout.{ballot_cell, heard_cell, words_need, ballots_need}
use Rattle.tables.specs.Bounds.{Bounds}
use Rattle.tables.specs.Addresses.{Within}
use Rattle.tables.proofs.Addresses.{ballot_in, heard_in}

module _ {N : Numbers} (b : Bounds N) {so : Sort} {s p d i : ℕ} (w : Within N so s p d) where
  pub heard_inside : (ws : List ℕ) → words_need N ≤ length ws → i ≡ heard_cell N so s p d → i < length ws
  heard_inside ws long e = omega (arith, heard_in N so s p d w)

  pub ballot_inside : (bs : List ℕ) → ballots_need N ≤ length bs → i ≡ ballot_cell N so s p d → i < length bs
  ballot_inside bs long e = omega (arith, ballot_in N b.phases_some so s p d w)

pub ruleset inside = (scaled_Fits, heard_inside, ballot_inside)
