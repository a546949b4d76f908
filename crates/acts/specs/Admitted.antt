-- A step behind the first refusals: the second replica that it names, and what is known where it passed.
use Rattle.std.specs.Prelude.{ℕ, ◌<◌, ◌≤◌, ◌*◌, ◌≡◌}
use Rattle.model.specs.declared.Numbers.{Numbers}
use Rattle.model.specs.declared.Act.{Act}
use Rattle.model.specs.declared.Act.TheVariants.{Submit, Relay, Begin, Hear, Advance, Crash}
use Rattle.tables.specs.Layout.{Tables, record_at}
use Rattle.tables.specs.Sound.{Sound}

-- a second replica that the act of c names, or c again
abbrev pub other : ℕ → Act → ℕ
other c = elim [ Submit x ↦ c | Relay x ↦ c | Begin ↦ c | Hear m ↦ m.sender.0 | Advance ↦ c | Crash ↦ c ]

-- what is known where none is met
pub record Admitted (N : Numbers) (c d strip : ℕ) (t : Tables) : Type 0 where
  pub fine : Sound N t
  pub coins : N.slots * N.phases ≤ strip
  pub who : c < N.n
  pub named : d < N.n
  pub running : (record_at t.words c).crashed ≡ 0
