-- What counting asks: the replica, a slot of the run and memories as long as the run needs; and the replica as its rules read it.
use Rattle.std.specs.Prelude.{ℕ, ◌<◌, true, ◌≡◌}
use Rattle.model.specs.declared.Numbers.{Numbers}
use Rattle.model.specs.declared.Sort.{Sort}
use Rattle.model.specs.Rack.{Replica}
use Rattle.model.specs.Rules.{phase_in}
use Rattle.tables.specs.Layout.{Tables}
use Rattle.tables.specs.View.{inbox_in}
use Rattle.messages.specs.Reach.{Reach, reading}

pub record InSlot (N : Numbers) (c s : ℕ) (t : Tables) : Type 0 where
  pub who : c < N.n
  pub slot : s < N.slots
  pub reach : Reach N t

-- and the phase is one of the sort
pub record InPhase (N : Numbers) (c : ℕ) (so : Sort) (s p : ℕ) (t : Tables) : Type 0 where
  pub in_slot : InSlot N c s t
  pub phase : phase_in N so p ≡ true

-- replica c in a slot and phase, with what the memories say that it has heard
abbrev pub heard_by : Numbers → ℕ → ℕ → ℕ → Tables → Replica
heard_by N c s p t = reading s p (inbox_in N t.words t.orders t.ballots c)
