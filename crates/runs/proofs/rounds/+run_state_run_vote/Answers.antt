use Rattle.std.proofs.Common.{◌≡◌, suc, ◌+◌, ◌-◌, ◌*◌, ◌∙◌, refl, add-one, arith}
use native.Mathlib.Nat.{pos_of_ne-zero}
use Rattle.runs.proofs.RunLaws.{passes_again, stops_here, goes_further, run_out, bound_is}
use Rattle.runs.proofs.rounds.+run_state_run_vote.Goals as goal

pub run_state-run_vote-requires : goal.run_state-run_vote-requires
run_state-run_vote-requires t c = let once = c.advance_once-effect.ensures in
    (omega arith, (let q = c.requires.0 in omega arith, passes_again _ _ _ _ once.judged once.left c.goes_on.ensures c.requires.1 c.if-goes_on.true))

pub run_state-returns-then-goes_on-clause-outcome : goal.run_state-returns-then-goes_on-clause-outcome
run_state-returns-then-goes_on-clause-outcome t c = let once = c.advance_once-effect.ensures in
    c.run_vote.ensures.outcome ∙ goes_further _ _ _ _ once.judged once.left c.goes_on.ensures (2 * c.args.left) _ c.if-goes_on.true
    ∙ bound_is _ _ _ _ _ (add-one _)

pub run_state-returns-clause-outcome : goal.run_state-returns-clause-outcome
run_state-returns-clause-outcome t c = let once = c.advance_once-effect.ensures in
    stops_here _ _ _ _ once.judged once.left c.goes_on.ensures (2 * c.args.left) _ c.if-goes_on.false c.stopped.ensures
    ∙ bound_is _ _ _ _ _ (add-one _)

pub run_vote-returns-then-left-eq0-clause-outcome : goal.run_vote-returns-then-left-eq0-clause-outcome
run_vote-returns-then-left-eq0-clause-outcome t c = run_out _ _ _ _ refl ∙ bound_is _ _ _ _ _ (omega (arith, c.if-left-eq0.true))

pub run_vote-run_state-requires : goal.run_vote-run_state-requires
run_vote-run_state-requires t c = let some = pos_of_ne-zero c.if-left-eq0.false in let once = c.advance_once-effect.ensures in
    (omega arith, (let q = c.requires.0 in omega arith, passes_again _ _ _ _ once.judged once.left c.goes_on.ensures c.requires.1 c.if-goes_on.true))

pub run_vote-returns-then-goes_on-clause-outcome : goal.run_vote-returns-then-goes_on-clause-outcome
run_vote-returns-then-goes_on-clause-outcome t c = let once = c.advance_once-effect.ensures in
    let fuel : 2 * c.args.left ≡ suc (2 * (c.args.left - 1) + 1) = omega (arith, pos_of_ne-zero c.if-left-eq0.false) in
    c.run_state.ensures.outcome ∙ goes_further _ _ _ _ once.judged once.left c.goes_on.ensures _ _ c.if-goes_on.true ∙ bound_is _ _ _ _ _ fuel

pub run_vote-returns-clause-outcome : goal.run_vote-returns-clause-outcome
run_vote-returns-clause-outcome t c = let once = c.advance_once-effect.ensures in
    let fuel : 2 * c.args.left ≡ suc (2 * (c.args.left - 1) + 1) = omega (arith, pos_of_ne-zero c.if-left-eq0.false) in
    stops_here _ _ _ _ once.judged once.left c.goes_on.ensures _ _ c.if-goes_on.false c.stopped.ensures ∙ bound_is _ _ _ _ _ fuel
