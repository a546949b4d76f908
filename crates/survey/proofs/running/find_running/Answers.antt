use native.Mathlib.Omega.{arith}
use mathlib.Core.Path.{refl}
use Rattle.survey.proofs.RunningLaws.{found_none, found_few, found_more}
use Rattle.survey.proofs.running.find_running.Goals as goal

pub loop-c-init : goal.loop-c-init
loop-c-init c = search found_none

pub found_with-found-requires : goal.found_with-found-requires
found_with-found-requires c = (omega arith, found_few _ _ c.args.numbers refl c.loop-c.invariant)

pub loop-c-preserved : goal.loop-c-preserved
loop-c-preserved c = search found_more
