-- How long bodies are, by their step.
use Rattle.std.specs.Prelude.{ℕ, ◌+◌, ◌≤◌, Bool, ◌≡◌, eqb}
use Rattle.std.proofs.Common.{arith}
use Rattle.std.proofs.Math.Path.{ap}
use Rattle.model.specs.Tests.{if}
use Rattle.model.proofs.Cases.{if-ind}
use Rattle.files.specs.Format.{slot_bytes, step_length}

module _ (wide : Bool) {step : ℕ} where
  pub opening_body : step ≡ 0 → step_length step wide ≡ slot_bytes wide + 7
  unfolding step_length if
  opening_body e = ap (λ (k : ℕ). step_length k wide) e

  pub submit_body : step ≡ 1 → step_length step wide ≡ 9
  unfolding step_length if
  submit_body e = ap (λ (k : ℕ). step_length k wide) e

  pub relay_body : step ≡ 2 → step_length step wide ≡ 9
  unfolding step_length if
  relay_body e = ap (λ (k : ℕ). step_length k wide) e

  pub hear_body : step ≡ 4 → step_length step wide ≡ slot_bytes wide + 4
  unfolding step_length if
  hear_body e = ap (λ (k : ℕ). step_length k wide) e

-- a slot has a byte or two
pub slot_some : (wide : Bool) → (1 ≤ slot_bytes wide) × (slot_bytes wide ≤ 2)
slot_some wide = if-ind (λ (z : ℕ). (1 ≤ z) × (z ≤ 2)) wide (λ _. (omega arith, omega arith)) (λ _. (omega arith, omega arith))

-- every body has its controller
pub some_body : (step : ℕ) (wide : Bool) → 1 ≤ step_length step wide
unfolding step_length
some_body step wide =
    at_least (eqb step 0) _ _ (omega arith) (at_least (eqb step 1) 9 _ (omega arith)
    (at_least (eqb step 2) 9 _ (omega arith) (at_least (eqb step 4) _ 1 (omega arith) (omega arith))))
  where
    at_least : (b : Bool) (x y : ℕ) → 1 ≤ x → 1 ≤ y → 1 ≤ if b x y
    at_least b x y h k = if-ind (λ (z : ℕ). 1 ≤ z) b (λ _. h) (λ _. k)
