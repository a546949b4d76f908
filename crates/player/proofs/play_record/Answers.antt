use mathlib.Core.Path.{ap, ◌∙◌}
use Rattle.files.specs.Found.{Ok}
use Rattle.files.specs.PlayLaws.{on_end, on_stop, on_made}
use Rattle.player.proofs.play_record.Goals as goal

pub returns-in-Ok-None-clause-outcome : goal.returns-in-Ok-None-clause-outcome
returns-in-Ok-None-clause-outcome c =
    on_end _ _ _ _ _ c.read_at-found.ensures.0 (c.in-Ok-None.is ∙ ap Ok (rw c.in-Ok-None.is at c.in-Ok-None.field-0-is))

pub returns-in-Ok-Some-clause-outcome : goal.returns-in-Ok-Some-clause-outcome
returns-in-Ok-Some-clause-outcome c =
    on_made _ _ _ _ _ c.read_at-found.ensures.0 (c.in-Ok-Some.is ∙ ap Ok (rw c.in-Ok-Some.is at c.in-Ok-Some.field-0-is)) c.answer_call-answer.ensures.outcome
    c.move_on.ensures

pub returns-in-Err-clause-outcome : goal.returns-in-Err-clause-outcome
returns-in-Err-clause-outcome c = on_stop _ _ _ _ _ c.read_at-found.ensures.0 c.in-Err.is
