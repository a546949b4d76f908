use Rattle.std.proofs.Common.{refl}
use Rattle.acts.proofs.GateLaws.{admitted, judge_ends, judge_rules}
use Rattle.acts.proofs.RuleLaws.{record_asks, begin_asks, begins}
use Rattle.acts.proofs.judge_begin.Goals as goal

pub returns-in_err-admit : goal.returns-in_err-admit
returns-in_err-admit c = judge_ends _ _ _ _ _ refl _ _ c.from_residual.ensures.1 c.in_err-admit.ensures

pub load-k-requires : goal.load-k-requires
load-k-requires c = record_asks (admitted c.in_ok-admit.ensures)

pub begin_rule-requires : goal.begin_rule-requires
begin_rule-requires c = begin_asks (admitted c.in_ok-admit.ensures) c.load-k.ensures

pub returns : goal.returns
returns c = judge_rules _ _ _ _ _ refl c.in_ok-admit.ensures (begins _ _ _ _ c.load-k.ensures c.from.ensures c.begin_rule.ensures)
