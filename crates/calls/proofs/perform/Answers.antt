use Rattle.std.proofs.Common.{rules}
use Rattle.calls.proofs.CallLaws.{answers, opens, steps, runs_on, conducts}
use Rattle.calls.proofs.perform.Goals as goal

pub returns-in-Open-clause-outcome : goal.returns-in-Open-clause-outcome
returns-in-Open-clause-outcome c =
    opens _ _ _ (answers c.open.result c.map_or_else.ensures (λ x p. search rules) (λ why p. p)) _ _ c.in-Open.is c.open.ensures.outcome

pub returns-in-Single-clause-outcome : goal.returns-in-Single-clause-outcome
returns-in-Single-clause-outcome c =
    steps _ _ _ (answers c.take_step.result c.map_or_else-in-Single.ensures (λ x p. search rules) (λ why p. p)) _ c.in-Single.is c.take_step.ensures.outcome

pub returns-in-RunOn-clause-outcome : goal.returns-in-RunOn-clause-outcome
returns-in-RunOn-clause-outcome c =
    runs_on _ _ _ (answers c.run_on.result c.map_or_else-in-RunOn.ensures (λ x p. search rules) (λ why p. p)) _ c.in-RunOn.is c.run_on.ensures.outcome

pub returns-in-Conduct-clause-outcome : goal.returns-in-Conduct-clause-outcome
returns-in-Conduct-clause-outcome c =
    conducts _ _ _ (answers c.conduct.result c.map_or_else-in-Conduct.ensures (λ x p. search rules) (λ why p. p)) c.in-Conduct.is c.conduct.ensures.outcome
