use Rattle.std.proofs.Common.{◌∙◌, ap}
use Rattle.model.specs.declared.Effect.TheVariants.{Halt}
use Rattle.model.specs.TurnedAway.{effect_in}
use Rattle.acts.proofs.GateLaws.{turned_away}
use Rattle.steps.proofs.CrashLaws.{missing_is, made_there}
use Rattle.steps.proofs.crashes.judge_crash.Goals as goal

pub returns-then-not-record_there : goal.returns-then-not-record_there
returns-then-not-record_there c = c.missing.ensures ∙ missing_is _ _ _ c.record_there.ensures c.if-not-record_there.true

pub returns-in_err-crash_core : goal.returns-in_err-crash_core
returns-in_err-crash_core c = ap (effect_in (λ _. Halt)) (turned_away c.from_residual.ensures.1)
    ∙ made_there _ _ _ c.record_there.ensures c.if-not-record_there.false c.load.ensures c.in_err-crash_core.ensures

pub returns : goal.returns
returns c = made_there _ _ _ c.record_there.ensures c.if-not-record_there.false c.load.ensures c.in_ok-crash_core.ensures
