use native.Mathlib.Omega.{arith}
use Rattle.rounds.proofs.MadeLaws.{made_then}
use Rattle.rounds.proofs.make_round.Goals as goal

pub returns-clause-made : goal.returns-clause-made
returns-clause-made c = let few = c.requires.0.fine.within.few in
    let heard = c.all_hear-heard.ensures.made in
    let advanced = c.each_does.ensures.made in
    (omega (arith, heard.0, advanced.0), made_then _ _ (heard.1 _ c.requires.1) advanced.1)
