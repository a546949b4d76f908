-- Texts as lists of bytes, and numbers in decimal.
use Rattle.std.specs.Prelude.{ℕ, zero, suc, ◌+◌, ◌/◌, ◌%◌, List, [] as none, ◌∷◌ as ◌then◌, ◌++◌, ltb}
use Prim.Native.Char.{code}
use Prim.Native.String.{String, [], ◌∷◌}
use Rattle.model.specs.Tests.{if}

-- the bytes of a text in ASCII
abbrev pub text : String → List ℕ
text [] = none
text (c ∷ rest) = code c then text rest

abbrev pub digit : ℕ → List ℕ
digit d = (48 + d) then none

-- a number's digits, the highest first and no 0 in front, if it has at most k
unfoldable pub digits : ℕ → ℕ → List ℕ
digits zero n = none
digits (suc k) n = if (ltb n 10) (digit n) (digits k (n / 10) ++ digit (n % 10))

-- a number of 64 bits has at most 20 digits
abbrev pub decimal : ℕ → List ℕ
decimal n = digits 20 n
