use Rattle.survey.proofs.RunningLaws.{Found}
use Rattle.survey.proofs.running.find_running.Given as goal

abbrev pub invariant-loop-c : goal.invariant-loop-c
invariant-loop-c l = Found l.words l.fn.numbers.n l.c l.found
