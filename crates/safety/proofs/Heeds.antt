-- How a step's effect goes with the notices that its replica has heard: a close says whether it is by one, and the find round is entered
-- without one.
use Rattle.std.specs.Prelude.{ℕ, Bool, false, List, ◌≡◌}
use Rattle.std.proofs.Math.Bool.{not}
use Rattle.std.proofs.Math.Path.{sym}
use Rattle.std.proofs.Common.{ap}
use Rattle.safety.specs.Types.{Numbers, Round, Idle, Exchange, State, Vote, Find}
use Rattle.safety.specs.Types.{Act, Submit, Relay, Begin, Hear, Advance, Crash, Step}
use Rattle.model.specs.Rack.{sort_of, is_sent, Replica, Rack}
use Rattle.model.specs.TurnedAway.{Rule}
use Rattle.model.specs.Rules.{heed, notice, outcome, advance_rule, own_rule, decide}
use Rattle.model.proofs.Cases.{if-ind, unless_ind}
use Rattle.safety.specs.Heeds.{Heeded, concludes, heard_heeds}

module _ (N : Numbers) (k : Replica) where
  rounds_heed : (flip : Bool) (a : Round) → is_sent (notice N k) ≡ false → Heeded N k (advance_rule N flip k a).effect
  unfolding advance_rule
  rounds_heed flip Idle unheard = tt
  rounds_heed flip Exchange unheard = tt
  rounds_heed flip State unheard = tt
  rounds_heed flip Vote unheard = concludes N k flip (outcome N k) unheard
  rounds_heed flip Find unheard = sym (ap not unheard)

  own_heeds : (strip : List ℕ) (a : Act) (r : Rack) → Heeded N k (own_rule N strip a r k).effect
  unfolding own_rule heed
  own_heeds strip (Submit x) r = tt
  own_heeds strip (Relay x) r = tt
  own_heeds strip Begin r = tt
  own_heeds strip (Hear m) r = heard_heeds N k r.sent m (sort_of m.sort)
  own_heeds strip Advance r = if-ind (λ (x : Rule). Heeded N k x.effect) (is_sent (notice N k)) (λ heard. sym (ap not heard)) (rounds_heed _ k.round)
  own_heeds strip Crash r = tt

pub decide_heeds : (N : Numbers) (strip : List ℕ) (a : Step) (r : Rack) → Heeded N (r.at a.who.0) (decide N strip a r)
unfolding decide
decide_heeds N strip a r = let k = r.at a.who.0 in
    unless_ind (Heeded N k) _ (λ why. tt) (λ _. own_heeds N k strip a.act r)
