-- What a read finds has document 01's number and values of its place in the file.
use Prim.Native.Nat.{ℕ, zero, suc, ◌+◌, ◌≤◌}
use native.Mathlib.Omega.{arith}
use Rattle.std.specs.Prelude.{Bool, List, ◌∷◌, ◌≡◌}
use Rattle.model.specs.Tests.{if}
use Rattle.files.specs.Format.{slot_bytes, act_at, step_at}
use Rattle.files.specs.NumberLaws.{one}
use Rattle.files.specs.Numbered.{call_values, widths, numbers_at}

module _ (file : List ℕ) where
  -- the numbers of a body, step by step
  pub made : (step : ℕ) (wide : Bool) (i : ℕ) → step ≤ 7 → call_values (step_at step wide file i) ≡ step ∷ numbers_at (widths step wide) file i
  unfolding step_at act_at widths numbers_at if
  made zero wide i h =
      let a : i + 1 + 1 ≡ i + 2 = omega arith in
      let b : i + 2 + slot_bytes wide + 1 ≡ i + 3 + slot_bytes wide = omega arith in
      let c : i + 3 + slot_bytes wide + 2 ≡ i + 5 + slot_bytes wide = omega arith in
      simp (a, b, c, one file)
  made (suc zero) wide i h = rw (one file)
  made (suc (suc zero)) wide i h = rw (one file)
  made (suc (suc (suc zero))) wide i h = rw (one file)
  made (suc (suc (suc (suc zero)))) wide i h =
      let a : i + 1 + 1 + 1 ≡ i + 1 + 2 = omega arith in
      simp (a, one file)
  made (suc (suc (suc (suc (suc zero))))) wide i h = rw (one file)
  made (suc (suc (suc (suc (suc (suc zero)))))) wide i h = rw (one file)
  made (suc (suc (suc (suc (suc (suc (suc zero))))))) wide i h = rw (one file)
  made (suc (suc (suc (suc (suc (suc (suc (suc step)))))))) wide i h = absurd (omega arith)
