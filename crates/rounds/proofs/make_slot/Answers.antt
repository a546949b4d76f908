use mathlib.Core.Path.{refl}
use Rattle.model.specs.declared.Act.TheVariants.{Begin}
use Rattle.rounds.proofs.MadeLaws.{made_slot}
use Rattle.rounds.proofs.HearLaws.{exchange_in, phase_1_in}
use Rattle.rounds.proofs.FineLaws.{calm_does, calm_round, ready_on}
use Rattle.rounds.proofs.make_slot.Goals as goal

pub make_round-exchanged-requires : goal.make_round-exchanged-requires
make_round-exchanged-requires c =
    (ready_on (calm_does _ _ Begin refl) c.each_does-begun.ensures.made.1 c.requires.0, c.requires.1, (c.requires.2, exchange_in _))

pub make_round-stated-requires : goal.make_round-stated-requires
make_round-stated-requires c = let begun = ready_on (calm_does _ _ Begin refl) c.each_does-begun.ensures.made.1 c.requires.0 in (
  ready_on (calm_round _ _ _ _ _) c.make_round-exchanged.ensures.made.1 begun,
  c.requires.1,
  (c.requires.2, (phase_1_in c.requires.0.fine.within).0),
)

pub make_round-requires : goal.make_round-requires
make_round-requires c = let begun = ready_on (calm_does _ _ Begin refl) c.each_does-begun.ensures.made.1 c.requires.0 in
    let exchanged = ready_on (calm_round _ _ _ _ _) c.make_round-exchanged.ensures.made.1 begun in (
      ready_on (calm_round _ _ _ _ _) c.make_round-stated.ensures.made.1 exchanged,
      c.requires.1,
      (c.requires.2, (phase_1_in c.requires.0.fine.within).1),
    )

pub returns-clause-made : goal.returns-clause-made
returns-clause-made c =
    made_slot _ _ _ _ _ c.each_does-begun.ensures.made.1 c.make_round-exchanged.ensures.made.1 c.make_round-stated.ensures.made.1
    c.make_round.ensures.made.1
