use Rattle.std.proofs.lemmas.Result.{err_from_is_err_and}
use Rattle.model.proofs.Branches.{tests}
use Rattle.orders.proofs.RuleLaws.{submit_blank, submit_held, submit_full, submit_new, submit_known}
use Rattle.orders.proofs.rule.submit_rule.Goals.{else-known-first-via-then-known-first+else-numbers-known, else-known-first-via-else-known-first}
use Rattle.orders.proofs.rule.submit_rule.Goals as goal

pub returns-in_err-vet_tag : goal.returns-in_err-vet_tag
returns-in_err-vet_tag c =
    let (is, blank) = c.in_err-vet_tag.ensures in
    let p = err_from_is_err_and c.from_residual.result c.from_residual.ensures.1 in
    rw (p.1, p.2) (submit_blank c.args.numbers _ _ _ _ is blank)

pub returns-then-held_from : goal.returns-then-held_from
returns-then-held_from c = search (submit_held, c.in_ok-vet_tag.ensures, tests)

pub returns-then-numbers-known : goal.returns-then-numbers-known
returns-then-numbers-known c = search (submit_full, c.in_ok-vet_tag.ensures, tests)

pub returns : goal.returns
returns c = elim c.else-known-first.branch [
  | else-known-first-via-then-known-first+else-numbers-known w ↦ search (submit_new, c.in_ok-vet_tag.ensures, tests)
  | else-known-first-via-else-known-first w ↦ search (submit_known, c.in_ok-vet_tag.ensures, tests)
]
