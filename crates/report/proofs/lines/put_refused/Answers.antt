use mathlib.Core.Path.{ap}
use Rattle.files.specs.Text.{decimal}
use Rattle.report.proofs.PageLaws.{then, same_text}
use Rattle.report.proofs.lines.put_refused.Goals as goal

pub returns-clause-text : goal.returns-clause-text
returns-clause-text c = then _ _ _ c.put_text.ensures.text (then _ _ _ c.put_decimal.ensures.text (then _ _ _ c.put_text-2.ensures.text
    (then _ _ _ (same_text _ _ _ (ap decimal c.from.ensures) c.put_decimal-2.ensures.text) c.put_text-3.ensures.text)))
