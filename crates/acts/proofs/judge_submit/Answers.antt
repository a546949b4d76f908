use Rattle.std.proofs.Common.{refl}
use Rattle.acts.proofs.GateLaws.{admitted, judge_ends, judge_rules}
use Rattle.acts.proofs.RuleLaws.{acting, submits}
use Rattle.acts.proofs.judge_submit.Goals as goal

pub returns-in_err-admit : goal.returns-in_err-admit
returns-in_err-admit c = judge_ends _ _ _ _ _ refl _ _ c.from_residual.ensures.1 c.in_err-admit.ensures

pub submit_rule-requires : goal.submit_rule-requires
submit_rule-requires c = acting (admitted c.in_ok-admit.ensures)

pub returns : goal.returns
returns c = judge_rules _ _ _ _ _ refl c.in_ok-admit.ensures (submits _ _ _ _ _ c.submit_rule.ensures)
