-- Masks of replicas.
use Rattle.std.specs.Prelude.{ℕ, ◌<◌, Bool, ◌≡◌}
use Rattle.tables.specs.Layout.{has_bit}

-- a mask has the bits of those of the first n that pass a test
abbrev pub Marked : ℕ → (ℕ → Bool) → ℕ → Type 0
Marked n ok mask = (c : ℕ) → c < n → has_bit mask c ≡ ok c
