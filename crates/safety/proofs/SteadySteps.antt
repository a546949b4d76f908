-- Every step of a run leaves each replica standing as specs/Steady has it.
use Rattle.std.specs.Prelude.{ℕ, ◌≤◌}
use Rattle.safety.specs.Types.{Numbers, Effect, Act}
use Rattle.model.specs.Rack.{Rack, apply}
use Rattle.safety.specs.Comes.{Comes, refused, ruled}
use Rattle.safety.specs.Invariant.{Invariant, Allowed}
use Rattle.safety.specs.Kept.{board_grows}
use Rattle.safety.specs.Steady.{SteadyRack}
use Rattle.safety.proofs.Steady.{rule_steady}

module _ (N : Numbers) where
  open N use {phases}

  module _ (some : 1 ≤ phases) (r : Rack) (inv : Invariant N r) (old : SteadyRack N r) (c : ℕ) where
    pub step_steady : {a : Act} {e : Effect} → Comes N r c a e → Allowed N r c e → SteadyRack N (apply c e r)
    unfolding apply
    step_steady (refused why) ok = old
    step_steady (ruled {e = e} acts rule) ok = rule_steady N some r inv old c rule (board_grows N r inv c e ok)
