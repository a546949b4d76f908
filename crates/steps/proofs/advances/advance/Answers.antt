use Rattle.std.proofs.Common.{sym, ap}
use Rattle.model.specs.declared.Answer.TheVariants.{Done}
use Rattle.model.specs.Scripts.{answered}
use Rattle.acts.proofs.StepLaws.{takes, not_refused, all_done}
use Rattle.steps.proofs.advances.advance.Goals as goal

pub returns-in-Refuse-clause-outcome : goal.returns-in-Refuse-clause-outcome
returns-in-Refuse-clause-outcome c = let once = c.advance_once.ensures in takes _ _ _ _ once.judged once.left (ap (answered Done) (sym c.in-Refuse.is))

pub returns-in_default-clause-outcome : goal.returns-in_default-clause-outcome
returns-in_default-clause-outcome c = let once = c.advance_once.ensures in
    takes _ _ _ _ once.judged once.left (all_done _ (not_refused _ c.in_default.not-Refuse))
