use Rattle.std.proofs.Common.{refl}
use Rattle.tables.specs.Lent.{reads_held}
use Rattle.acts.proofs.GateLaws.{admitted, judge_ends, judge_rules}
use Rattle.acts.proofs.RuleLaws.{hear_asks, hears}
use Rattle.acts.proofs.judge_hear.Goals as goal

pub returns-in_err-admit : goal.returns-in_err-admit
returns-in_err-admit c = judge_ends _ _ _ _ _ refl _ _ c.from_residual.ensures.1 c.in_err-admit.ensures

pub hear_rule-requires : goal.hear_rule-requires
hear_rule-requires c = rw (reads_held c.to_read.ensures) (hear_asks (admitted c.in_ok-admit.ensures))

pub returns : goal.returns
returns c = let e = c.to_read.ensures in
    judge_rules _ _ _ _ _ refl c.in_ok-admit.ensures (hears _ _ _ _ _ (rw (← e.words, ← e.orders, ← e.ballots) c.hear_rule.ensures.settled))
