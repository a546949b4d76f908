-- The bytes of a number, and the number that bytes make.
use Prim.Native.Nat.{ℕ, ◌^◌, ◌<◌}
use Rattle.std.specs.Prelude.{◌≡◌}
use Rattle.std.proofs.Common.{◌∙◌, div-one}
use native.Mathlib.Omega.{arith}
use Rattle.shelf.specs.Planes.{entry_bytes, bytes, joined}
use Rattle.shelf.specs.Bytes.{joined_first}

-- an entry is what its bytes make
module _ (entry : ℕ) (fits : entry < 256 ^ entry_bytes) where
  pub joined_bytes : joined (bytes entry) ≡ entry
  joined_bytes = joined_first entry fits entry_bytes (omega arith) ∙ div-one entry
