use Rattle.std.proofs.Common.{refl, sym, ◌∙◌}
use Rattle.tables.specs.Lent.{reads_held}
use Rattle.acts.proofs.GateLaws.{admitted, judge_stops, judge_rules}
use Rattle.acts.proofs.RuleLaws.{record_asks}
use Rattle.steps.proofs.AdvanceLaws.{advance_asks, advances}
use Rattle.steps.proofs.advances.judge_advance.Goals as goal

pub returns-in-Err : goal.returns-in-Err
returns-in-Err c = judge_stops _ _ _ _ _ refl (sym c.in-Err.is ∙ c.vet_once.ensures)

pub load-k-requires : goal.load-k-requires
load-k-requires c = record_asks (admitted (sym c.in_default.is ∙ c.vet_once.ensures))

pub heed-requires : goal.heed-requires
heed-requires c = rw (reads_held c.to_read.ensures) (advance_asks (admitted (sym c.in_default.is ∙ c.vet_once.ensures)) c.load-k.ensures c.from.ensures)

pub returns : goal.returns
returns c = let passed = sym c.in_default.is ∙ c.vet_once.ensures in
    let e = c.to_read.ensures in
    judge_rules _ _ _ _ _ refl passed
    (advances (admitted passed) c.load-k.ensures c.from.ensures _ (rw (← e.words, ← e.orders, ← e.ballots) c.heed.ensures))
