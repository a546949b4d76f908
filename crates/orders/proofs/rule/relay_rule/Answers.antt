use Rattle.std.proofs.lemmas.Result.{err_from_is_err_and}
use Rattle.model.proofs.Branches.{tests}
use Rattle.orders.proofs.RuleLaws.{relay_blank, relay_unknown, relay_held, relay_good}
use Rattle.orders.proofs.rule.relay_rule.Goals as goal

pub returns-in_err-vet_tag : goal.returns-in_err-vet_tag
returns-in_err-vet_tag c =
    let (is, blank) = c.in_err-vet_tag.ensures in
    let p = err_from_is_err_and c.from_residual.result c.from_residual.ensures.1 in
    rw (p.1, p.2) (relay_blank c.args.numbers _ _ _ _ is blank)

pub returns-then-known-first : goal.returns-then-known-first
returns-then-known-first c = search (relay_unknown, c.in_ok-vet_tag.ensures, tests)

pub returns-then-held_from : goal.returns-then-held_from
returns-then-held_from c = search (relay_held, c.in_ok-vet_tag.ensures, tests)

pub returns : goal.returns
returns c = search (relay_good, c.in_ok-vet_tag.ensures, tests)
