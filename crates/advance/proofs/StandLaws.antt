-- Where the replica stands, by its round: a slot of the run, and in the state and vote rounds a phase of the run.
use Prim.Native.Nat.{ℕ, ◌+◌, ◌-◌, ◌*◌, ◌≤◌, ◌<◌}
use native.Mathlib.Omega.{arith}
use mathlib.Core.Bool.{true, false}
use mathlib.Core.Path.{◌≡◌, refl}
use lib.Arith.{digits_lt}
use Rattle.model.specs.declared.Numbers.{Numbers}
use Rattle.model.specs.declared.Round.{Round}
use Rattle.model.specs.declared.Round.TheVariants.{Idle, Exchange, State, Vote, Find}
use Rattle.model.specs.declared.Sort.TheVariants.{States, Votes}
use Rattle.model.specs.Coins.{strip_cell}
use Rattle.model.specs.Rack.{same_round}
use Rattle.model.specs.Rules.{phase_in}
use Rattle.tables.specs.Layout.{Tables}
use Rattle.tables.specs.Addresses.{phase_bounds}
use Rattle.tables.specs.Checks.{misplaced}
use Rattle.tables.specs.Sound.{in_slot, in_state as state_phase, in_vote as vote_phase}
use Rattle.messages.specs.Reach.{Reach}
use Rattle.tallies.specs.Heard.{InSlot, InPhase}

-- a slot and phase of the run have their cell in a strip that is long enough
coin_there : (N : Numbers) (s p : ℕ) {st : ℕ} → s < N.slots → phase_in N Votes p ≡ true → N.slots * N.phases ≤ st
    → (1 ≤ p) × (strip_cell N.phases s p < st)
unfolding phase_in
coin_there N s p low e long =
    let (some, few) = phase_bounds N p e in
    let inside : s * N.phases + (p - 1) < N.slots * N.phases = digits_lt low (omega arith) in
    (some, omega arith)

-- a record that is not misplaced
module _ {N : Numbers} {c : ℕ} (a : Round) (s p : ℕ) {t : Tables}
    (there : c < N.n) (placed : misplaced N a s p ≡ false) (reach : Reach N t) where
  -- a round but idle has its slot
  slot_of : {b : Round} → a ≡ b → same_round b Idle ≡ false → InSlot N c s t
  slot_of {b} q busy = record { who = there; slot = in_slot N s p b busy (rw q at placed); reach = reach }

  pub in_exchange : a ≡ Exchange → InSlot N c s t
  in_exchange q = slot_of q refl

  pub in_find : a ≡ Find → InSlot N c s t
  in_find q = slot_of q refl

  pub in_state : a ≡ State → InPhase N c States s p t
  in_state q = record { in_slot = slot_of q refl; phase = state_phase N s p (rw q at placed) }

  in_vote : a ≡ Vote → InPhase N c Votes s p t
  in_vote q = record { in_slot = slot_of q refl; phase = vote_phase N s p (rw q at placed) }

  -- and the vote round its coin, in a strip that is long enough
  pub vote_asks : {st : ℕ} → a ≡ Vote → N.slots * N.phases ≤ st
      → InPhase N c Votes s p t × (1 ≤ p) × (strip_cell N.phases s p < st)
  vote_asks q long =
      let here = in_vote q in
      let (some, inside) = coin_there N s p here.in_slot.slot here.phase long in
      (here, some, inside)
