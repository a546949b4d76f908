-- Steps that are made one after another on the memories, and what those that make them ask.
use Rattle.std.specs.Prelude.{ℕ, ◌+◌, ◌*◌, ◌<◌, true, false, List, ◌≡◌}
use Rattle.model.specs.declared.Numbers.{Numbers}
use Rattle.model.specs.declared.Sort.{Sort}
use Rattle.model.specs.declared.Step.{Step}
use Rattle.model.specs.Limits.{most_replicas}
use Rattle.model.specs.Rules.{phase_in, strip_short}
use Rattle.model.specs.Scripts.{after_all, accepted_of}
use Rattle.tables.specs.Layout.{Tables, has_bit, record_at}
use Rattle.tables.specs.Sound.{Sound}
use Rattle.tables.specs.Calls.{on_tables}

-- of these steps r are accepted, and they leave u
pub record Made (N : Numbers) (strip : List ℕ) (steps : List Step) (t u : Tables) (r : ℕ) : Type 0 where
  pub counted : r ≡ accepted_of (on_tables N strip) steps t
  pub left : u ≡ after_all (on_tables N strip) steps t

-- no first refusal is met by a hear of c, but for a short strip
pub record Listening (N : Numbers) (c : ℕ) (t : Tables) : Type 0 where
  pub fine : Sound N t
  pub who : c < N.n
  pub running : (record_at t.words c).crashed ≡ 0

-- nor by one of any replica of a mask
pub record Ready (N : Numbers) (mask : ℕ) (t : Tables) : Type 0 where
  pub fine : Sound N t
  pub running : (c : ℕ) → c < N.n → has_bit mask c ≡ true → (record_at t.words c).crashed ≡ 0

-- a sort, slot and phase of the run
abbrev pub InRange : Numbers → Sort → ℕ → ℕ → Type 0
InRange N so s p = (s < N.slots) × (phase_in N so p ≡ true)

-- what a slot asks that is gone through by the replicas of a mask
abbrev pub Passable : Numbers → ℕ → ℕ → List ℕ → Tables → Type 0
Passable N mask s strip t = Ready N mask t × (strip_short N strip ≡ false) × (s < N.slots)

-- a round has at most so many steps
abbrev pub most_round : ℕ
most_round = most_replicas * most_replicas + most_replicas
