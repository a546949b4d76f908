-- A list over the front of a memory: what stands behind it stays, and so does the length.
use Prim.Native.Nat.{ℕ, ◌+◌, ◌-◌, ◌≤◌}
use mathlib.Core.Path.{◌≡◌, ◌∙◌}
use mathlib.Core.List.{List, ◌++◌}
use native.Mathlib.Omega.{arith}
use lib.ListN.{length, get_or, drop, length-append, length-drop}
use lib.Seq.{get_or-append-add, get_or-drop}

module _ (l was : List ℕ) {n : ℕ} (many : length l ≡ n) where
  pub rest_stays : (k : ℕ) → n ≤ k → get_or (l ++ drop n was) k 0 ≡ get_or was k 0
  rest_stays k h =
      let past : length l + (k - n) ≡ k = omega arith in
      let back : n + (k - n) ≡ k = omega arith in
      rw past at (get_or-append-add l (drop n was) (k - n) 0) ∙ get_or-drop n was (k - n) 0 ∙ rw back

  pub length_stays : n ≤ length was → length (l ++ drop n was) ≡ length was
  length_stays h = rw (length-append, length-drop) (omega arith)
