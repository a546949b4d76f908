-- What an effect must be, for the tables to take it (`Writable`): a message of the run, unsent so far, or one that was sent;
-- a slot that is open; a tag that there is room for. What the rules give is so, on a rack of a run.
use Rattle.std.specs.Prelude.{ℕ, ◌<◌}
use Rattle.std.proofs.Common.{subst}
use Rattle.tables.specs.Types.{Numbers}
use Rattle.tables.specs.Types.{Effect, Act}
use Rattle.model.specs.Rack.{Rack}
use Rattle.safety.specs.Comes.{ByRule}
use Rattle.safety.specs.Comes.{Acts}
use Rattle.safety.specs.Invariant.{Invariant, Allowed, sends_unsent}
use Rattle.tables.specs.Bounds.{Bounds}
use Rattle.demand.specs.Writable.{Placed, Writable, fits_fresh, fitting, noticed_low}

module _ (N : Numbers) where
  open N use {n, slots, phases, room}

  module _ (bounds : Bounds N) (r : Rack) (placed : (c : ℕ) → c < n → Placed N (r.at c)) where
    -- of a run: its messages are unsent, and the slot of a heard notice is open, since its sender has closed more, and no more than there are
    module _ (inv : Invariant N r) where
      pub writable : {c : ℕ} {a : Act} {e : Effect} → Acts N r c → ByRule N r (r.at c) a e → Allowed N r c e → Writable N r c e
      writable {c} {e = e} acts rule may =
          (fits_fresh N) r c e (fitting N bounds r placed acts (noticed_low N bounds r placed inv c) rule)
          (λ so p w q. sends_unsent N r inv c so p w (subst (Allowed N r c) q may))
