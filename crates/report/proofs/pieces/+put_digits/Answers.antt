use mathlib.Core.Path.{ap, ◌∙◌}
use Rattle.files.specs.Page.{shown}
use Rattle.report.proofs.DigitLaws.{no_digit, last_digit, one_more_digit}
use Rattle.report.proofs.pieces.+put_digits.Goals.{then-n-ge10, else-n-ge10}
use Rattle.report.proofs.pieces.+put_digits.Goals as goal

pub returns-then-left-eq0-clause-text : goal.returns-then-left-eq0-clause-text
returns-then-left-eq0-clause-text t c = no_digit _ _ _ c.if-left-eq0.true

pub returns-clause-text : goal.returns-clause-text
returns-clause-text t c = let put = c.put.ensures.text in elim c.if-n-ge10.branch [
  | then-n-ge10 w ↦ one_more_digit _ _ _ c.if-left-eq0.false w.if-n-ge10.true (ap shown w.report-is ∙ w.put_digits.ensures.text) put
  | else-n-ge10 w ↦ last_digit _ _ _ c.if-left-eq0.false w.if-n-ge10.false (ap shown w.report-is) put
]
