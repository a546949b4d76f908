use mathlib.Core.Path.{ap, ◌∙◌}
use borrow.Author.Rules.{rules}
use Rattle.std.specs.Prelude.{◌≡◌, Option, None, Some}
use Rattle.std.specs.Option.{UnwrapsOrElse}
use Rattle.model.specs.contracts.NumbersDefault.TheImpl.{is_default-value}
use Rattle.model.specs.declared.Numbers.{Numbers}
use Rattle.model.proofs.Branches.{told}
use Rattle.tables.specs.Lent.{held}
use Rattle.tables.specs.Calls.{called}
use Rattle.files.specs.Found.{run_numbers}
use Rattle.files.specs.PlayLaws.{on_misplaced, on_large, on_call}
use Rattle.player.proofs.answer_call.Goals as goal

-- the numbers of the run, all 0 if none was opened
run_of : (run : Option Numbers) {N : Numbers} → UnwrapsOrElse run is_default-value.it N → N ≡ run_numbers run
run_of None h = search rules
run_of (Some N) h = search rules

pub returns-then-is_out_of_place-clause-outcome : goal.returns-then-is_out_of_place-clause-outcome
returns-then-is_out_of_place-clause-outcome c = let e = c.is_some.ensures in
    on_misplaced _ _ _ _ _ (rw e at (told c.is_out_of_place.ensures c.if-is_out_of_place.true))

pub returns-then-is_too_large-clause-outcome : goal.returns-then-is_too_large-clause-outcome
returns-then-is_too_large-clause-outcome c = let e = c.is_some.ensures in
    on_large _ _ _ _ _ (rw e at (told c.is_out_of_place.ensures c.if-is_out_of_place.false)) (told c.is_too_large.ensures c.if-is_too_large.true)

pub returns-clause-outcome : goal.returns-clause-outcome
returns-clause-outcome c = let e = c.is_some.ensures in
    on_call _ _ _ _ _ (rw e at (told c.is_out_of_place.ensures c.if-is_out_of_place.false)) (told c.is_too_large.ensures c.if-is_too_large.false)
    (c.perform.ensures.outcome
    ∙ ap (λ (N : Numbers). called N c.args.call (held c.args.memory.now) c.args.strip.now)
    (run_of c.args.player.opened c.unwrap_or_default.ensures))
