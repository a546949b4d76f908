-- How a step's effect goes with the notices that its replica has heard: a close says whether it is by one, and the find round is entered
-- without one.
use Rattle.std.specs.Prelude.{Bool, true, false, ◌≡◌, Some, None}
use Rattle.std.proofs.Math.Bool.{not}
use Rattle.std.proofs.Math.Option.{Option, some as just, none}
use Rattle.std.proofs.Math.Path.{sym}
use Rattle.std.proofs.Common.{ap}
use Rattle.safety.specs.Types.{Numbers, Sort, Outcome, Message}
use Rattle.safety.specs.Types.{Effect, Refuse, Hold, Send, Close, Seek, Receive, Halt}
use Rattle.model.specs.Rack.{is_sent, Messages, Replica}
use Rattle.model.specs.Rules.{notice, conclude, hear_rule}
use Rattle.model.proofs.Cases.{if-ind}

abbrev pub Heeded : Numbers → Replica → Effect → Type 0
Heeded N k (Refuse why) = Unit {0}
Heeded N k (Hold x) = Unit {0}
Heeded N k (Send so p w) = Unit {0}
Heeded N k (Close x own) = own ≡ not (is_sent (notice N k))
Heeded N k Seek = is_sent (notice N k) ≡ false
Heeded N k (Receive so s p d w) = Unit {0}
Heeded N k Halt = Unit {0}

module _ (N : Numbers) (k : Replica) where
  pub concludes : (flip : Bool) (o : Outcome) → is_sent (notice N k) ≡ false → Heeded N k (conclude N flip k o)
  unfolding conclude
  concludes flip (Some false) unheard = sym (ap not unheard)
  concludes flip (Some true) unheard = if-ind (Heeded N k) _ (λ _. unheard) (λ _. sym (ap not unheard))
  concludes flip None unheard = tt

  pub heard_heeds : (sent : Messages) (m : Message) (so : Option Sort) → Heeded N k (hear_rule N sent k m so).effect
  unfolding hear_rule
  heard_heeds sent m none = tt
  heard_heeds sent m (just so) = tt
