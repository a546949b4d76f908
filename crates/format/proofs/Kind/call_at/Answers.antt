use Rattle.std.proofs.Common.{arith, inl, inr, ap, ◌∙◌}
use Rattle.model.specs.declared.Call.TheVariants.{Open}
use Rattle.model.specs.Tests.{if}
use Rattle.files.specs.Format.{step_kind, is_wide, step_at, act_at}
use Rattle.files.specs.BodyLaws.{some_body}
use Rattle.format.specs.Kinds.{kind_number}
use Rattle.format.proofs.KindLaws.{opening_long, tag_long, hear_long, opening_call, hear_call}
use Rattle.format.proofs.Kind.call_at.Goals as goal

pub bounds-file-i : goal.bounds-file-i
bounds-file-i c = let k = kind_number c.args.self in omega (arith, some_body (step_kind k) (is_wide k))

pub plan_at-requires : goal.plan_at-requires
plan_at-requires c = omega (arith, opening_long _ c.in-Opening.is)

pub returns-in-Opening : goal.returns-in-Opening
returns-in-Opening c = ap Open c.plan_at.ensures ∙ opening_call _ _ _ c.in-Opening.is

pub returns-in-RunOn : goal.returns-in-RunOn
unfolding step_kind step_at if
returns-in-RunOn c = rw (c.in-RunOn.is, c.from.ensures)

pub number-requires : goal.number-requires
number-requires c = let e = tag_long c.args.self (inl c.in-Submit.is) in (omega arith, omega arith)

pub number-requires-in-Relay : goal.number-requires-in-Relay
number-requires-in-Relay c = let e = tag_long c.args.self (inr c.in-Relay.is) in (omega arith, omega arith)

pub message_at-requires : goal.message_at-requires
message_at-requires c = omega (arith, hear_long _ c.in-Hear.is)

pub returns-in-Submit : goal.returns-in-Submit
unfolding step_kind step_at act_at if
returns-in-Submit c = rw (c.in-Submit.is, c.from.ensures, c.number.ensures)

pub returns-in-Relay : goal.returns-in-Relay
unfolding step_kind step_at act_at if
returns-in-Relay c = rw (c.in-Relay.is, c.from.ensures, c.number-in-Relay.ensures)

pub returns-in-Begin : goal.returns-in-Begin
unfolding step_kind step_at act_at if
returns-in-Begin c = rw (c.in-Begin.is, c.from.ensures)

pub returns-in-Hear : goal.returns-in-Hear
returns-in-Hear c = rw (c.from.ensures, c.message_at.ensures) (hear_call c.args.self c.args.file.now c.args.i c.in-Hear.is)

pub returns-in-Advance : goal.returns-in-Advance
unfolding step_kind step_at act_at if
returns-in-Advance c = rw (c.in-Advance.is, c.from.ensures)

pub returns-in-Crash : goal.returns-in-Crash
unfolding step_kind step_at act_at if
returns-in-Crash c = rw (c.in-Crash.is, c.from.ensures)
