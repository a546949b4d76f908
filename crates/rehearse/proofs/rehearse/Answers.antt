use native.Mathlib.Omega.{arith}
use Rattle.report.proofs.PageLaws.{counted}
use Rattle.files.specs.Rehearsal.{blank, blank_strip, rehearsal}
use Rattle.rehearse.proofs.rehearse.Goals as goal

pub returns-clause-prefix_len : goal.returns-clause-prefix_len
unfolding rehearsal blank blank_strip
returns-clause-prefix_len c = let e = c.play.ensures in let n = counted _ _ e.text in let s = e.same_report in grind (arith, n, s)

pub returns-clause-result_after : goal.returns-clause-result_after
unfolding rehearsal blank blank_strip
returns-clause-result_after c = let e = c.play.ensures.text in let s = c.play.ensures.same_report in grind (arith, e, s)
