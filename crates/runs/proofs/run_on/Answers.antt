use Rattle.std.proofs.Common.{◌+◌, ◌*◌, ◌∙◌, arith}
use Rattle.acts.proofs.GateLaws.{admitted}
use Rattle.acts.proofs.RuleLaws.{record_asks}
use Rattle.runs.proofs.RunLaws.{phases_few, none_made, passes_again, stops_here, turns_away, first_goes}
use Rattle.runs.proofs.run_on.Goals as goal

pub returns-in_err-admit-clause-outcome : goal.returns-in_err-admit-clause-outcome
returns-in_err-admit-clause-outcome c = turns_away _ _ _ _ _ c.from_residual.ensures.1 c.in_err-admit.ensures

pub returns-then-not-goes_on-clause-outcome : goal.returns-then-not-goes_on-clause-outcome
returns-then-not-goes_on-clause-outcome c = let once = c.advance_once-first.ensures in
    stops_here _ _ _ _ once.judged once.left c.goes_on.ensures (2 * c.args.numbers.phases + 4) _ c.if-not-goes_on.true c.stopped.ensures
    ∙ none_made _ _ _ _ (omega arith)

pub in_state_round-requires : goal.in_state_round-requires
in_state_round-requires c = let once = c.advance_once-first.ensures in
    record_asks (admitted (passes_again _ _ _ _ once.judged once.left c.goes_on.ensures c.in_ok-admit.ensures c.if-not-goes_on.false))

pub overflow_add-left : goal.overflow_add-left
overflow_add-left c = omega (arith, phases_few _ _ _ _ c.in_ok-admit.ensures)

pub run_state-requires : goal.run_state-requires
run_state-requires c = let once = c.advance_once-first.ensures in (
  omega (arith, phases_few _ _ _ _ c.in_ok-admit.ensures),
  passes_again _ _ _ _ once.judged once.left c.goes_on.ensures c.in_ok-admit.ensures c.if-not-goes_on.false,
)

pub returns-then-in_state_round-clause-outcome : goal.returns-then-in_state_round-clause-outcome
returns-then-in_state_round-clause-outcome c = let once = c.advance_once-first.ensures in
    c.run_state.ensures.outcome ∙ first_goes _ _ _ _ once.judged once.left c.goes_on.ensures _ (omega arith) c.if-not-goes_on.false

pub overflow_add-left-2 : goal.overflow_add-left-2
overflow_add-left-2 c = omega (arith, phases_few _ _ _ _ c.in_ok-admit.ensures)

pub run_vote-requires : goal.run_vote-requires
run_vote-requires c = let once = c.advance_once-first.ensures in (
  omega (arith, phases_few _ _ _ _ c.in_ok-admit.ensures),
  passes_again _ _ _ _ once.judged once.left c.goes_on.ensures c.in_ok-admit.ensures c.if-not-goes_on.false,
)

pub returns-clause-outcome : goal.returns-clause-outcome
returns-clause-outcome c = let once = c.advance_once-first.ensures in
    c.run_vote.ensures.outcome ∙ first_goes _ _ _ _ once.judged once.left c.goes_on.ensures _ (omega arith) c.if-not-goes_on.false
