use mathlib.Core.Path.{refl}
use Rattle.model.specs.declared.Act.TheVariants.{Relay}
use Rattle.rounds.proofs.FineLaws.{calm_does, ready_on}
use Rattle.conduct.proofs.ConductLaws.{passed_sound, ready, bar_turns, level_turns, level_passes}
use Rattle.conduct.proofs.conduct.Goals as goal

pub returns-in_err-bar-clause-outcome : goal.returns-in_err-bar-clause-outcome
returns-in_err-bar-clause-outcome c = bar_turns _ _ _ _ _ c.from_residual.ensures.1 c.in_err-bar.ensures

pub find_level-requires : goal.find_level-requires
find_level-requires c = (passed_sound _ _ _ c.in_ok-bar.ensures).0

pub returns-in_err-found-clause-outcome : goal.returns-in_err-found-clause-outcome
returns-in_err-found-clause-outcome c =
    level_turns _ _ _ _ _ c.from_residual-in_err-found.ensures.1 c.in_ok-bar.ensures c.in_err-found.ensures.settled

pub each_does-relays-requires : goal.each_does-relays-requires
each_does-relays-requires c = (passed_sound _ _ _ c.in_ok-bar.ensures).0.within.few

pub make_slot-steps-requires : goal.make_slot-steps-requires
make_slot-steps-requires c = let (fine, long) = passed_sound _ _ _ c.in_ok-bar.ensures in
    let seen = c.in_ok-found.ensures.seen in
    (ready_on (calm_does _ _ (Relay _) refl) c.each_does-relays.ensures.made.1 (ready _ _ _ fine seen.running), long, seen.below)

pub returns-clause-outcome : goal.returns-clause-outcome
returns-clause-outcome c = let found = c.in_ok-found.ensures in
    level_passes _ _ _ c.in_ok-bar.ensures found.settled found.seen c.each_does-relays.ensures.made.1 c.make_slot-steps.ensures.made
