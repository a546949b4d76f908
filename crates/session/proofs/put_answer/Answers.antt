use mathlib.Core.Path.{refl, ap}
use Rattle.model.specs.declared.Answer.{Answer}
use Rattle.model.specs.declared.Answer.TheVariants.{Refused, Opened}
use Rattle.files.specs.Found.{Ok, Some}
use Rattle.files.specs.Reported.{said_line}
use Rattle.session.proofs.ReportLaws.{says, no_line}
use Rattle.session.proofs.put_answer.Goals as goal

pub returns-in-Refused-clause-text : goal.returns-in-Refused-clause-text
unfolding said_line
returns-in-Refused-clause-text c = says _ _ _ (Ok (Some (Refused _))) (ap (λ (a : Answer). Ok (Some a)) c.in-Refused.is) c.put_refused.ensures.text

pub returns-in-Opened-clause-text : goal.returns-in-Opened-clause-text
unfolding said_line
returns-in-Opened-clause-text c = says _ _ _ (Ok (Some (Opened _))) (ap (λ (a : Answer). Ok (Some a)) c.in-Opened.is) c.put_opened.ensures.text

pub returns-in_default : goal.returns-in_default
returns-in_default c = record { same = refl; text = no_line _ _ _ c.in_default.not-Refused c.in_default.not-Opened }
