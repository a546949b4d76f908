-- What is known of a record that is not spoiled, and of memories where refusals 3 and 2 of a step are not met.
use Rattle.std.specs.Prelude.{ℕ, suc, ◌<◌, Bool, false, ◌&&◌, ◌||◌, ◌≡◌}
use Rattle.std.proofs.Common.{◌∙◌, ap, ap₂}
use native.Mathlib.Omega.{arith}
use Rattle.std.proofs.Math.Dec.{eqb}
use borrow.Author.Tests.{le-ltb}
use Rattle.tables.specs.Types.{Numbers, Round, Idle, Record}
use Rattle.model.specs.Rack.{round_number}
use Rattle.model.proofs.Cases.{or_none, round_back}
use Rattle.model.proofs.Counting.{one_bit}
use Rattle.tables.specs.Layout.{Tables, record_at}
use Rattle.tables.specs.Write.{moved, shut}
use Rattle.tables.specs.Checks.{misplaced, astray, spoiled}
use Rattle.tables.specs.Sound.{CountsFit, Sound, counts_low, fine_counts, own_unspoiled, round_low}

module _ (N : Numbers) where
  -- where a round, slot and phase go together, and the counts with the slot
  pub moved_fine : (a : Round) (s p : ℕ) (k : Record) → misplaced N a s p ≡ false → CountsFit (moved a s p k) → spoiled N (moved a s p k) ≡ false
  unfolding spoiled astray
  moved_fine a s p k e fit = or_none _ _
      (ap₂ (λ (x y : Bool). x || y) (le-ltb 4 (round_number a) (round_low a)) (ap (λ (a : Round). misplaced N a s p) (round_back a) ∙ e)) (counts_low _ fit)

  -- a close raises neither count by more than the slot
  pub shut_fine : (x : ℕ) (own : Bool) (k : Record) → k.slot < N.slots → CountsFit k → spoiled N (shut x own k) ≡ false
  unfolding misplaced
  shut_fine x own k low fit = let e = fit.0 in let f = fit.1 in
      moved_fine Idle (suc k.slot) k.phase (shut x own k) (le-ltb _ _ low)
      (omega (arith, one_bit (eqb x 0)), omega (arith, one_bit (own && eqb k.phase 1)))

-- ---- memories that passed

module _ (N : Numbers) where
  open N use {n, room}

  -- ---- the replica that acts, as its record is there

  module _ {t : Tables} (fine : Sound N t) {c : ℕ} (there : c < n) where
    pub own_counts : CountsFit (record_at t.words c)
    own_counts = fine_counts N _ (own_unspoiled N fine there)
