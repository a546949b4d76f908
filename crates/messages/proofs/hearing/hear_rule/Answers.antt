use Rattle.std.proofs.lemmas.Result.{err_from_is_err_and}
use borrow.Author.Tests.{not-true, not-false}
use Rattle.model.proofs.Branches.{told}
use Rattle.messages.proofs.HearLaws.{no_such, not_sent, already, taken, sort_found, no_sort}
use Rattle.messages.proofs.hearing.hear_rule.Goals as goal

pub returns-in_err-try_from-clause-settled : goal.returns-in_err-try_from-clause-settled
returns-in_err-try_from-clause-settled c = let p = err_from_is_err_and c.from_residual.result c.from_residual.ensures.1 in
    rw (p.1, p.2) (no_sort _ _ _ _ c.in_err-try_from.ensures)

pub returns-then-out_of_range-clause-settled : goal.returns-then-out_of_range-clause-settled
returns-then-out_of_range-clause-settled c = search (sort_found, c.in_ok-try_from.ensures, no_such, told)

pub returns-then-not-is_sent-clause-settled : goal.returns-then-not-is_sent-clause-settled
returns-then-not-is_sent-clause-settled c = search (sort_found, c.in_ok-try_from.ensures, not_sent, told, not-true)

pub returns-then-counts_for-clause-settled : goal.returns-then-counts_for-clause-settled
returns-then-counts_for-clause-settled c = search (sort_found, c.in_ok-try_from.ensures, already, told, not-false)

pub returns-clause-settled : goal.returns-clause-settled
returns-clause-settled c = search (sort_found, c.in_ok-try_from.ensures, taken, told, not-false)
