use Rattle.std.proofs.Common.{rules}
use native.Mathlib.Omega.{arith}
use mathlib.Core.Path.{refl}
use Rattle.model.proofs.Branches.{told}
use Rattle.session.proofs.RecordLaws.{play_none}
use Rattle.session.proofs.ReportLaws.{lines_none, one_more, stopped}
use Rattle.session.proofs.play_records.Goals as goal

pub loop-i-init : goal.loop-i-init
loop-i-init c = let e = c.unplayed-last.ensures in record {
  same = record { words = refl; orders = refl; ballots = refl };
  same_report = refl;
  written = (play_none _ _ _ _ e.0 e.1, lines_none _ _ _ _ refl);
}

pub returns-then-not-said_more-clause-outcome : goal.returns-then-not-said_more-clause-outcome
returns-then-not-said_more-clause-outcome c =
    (stopped _ _ _ _ (omega arith) (told c.said_more.ensures c.if-not-said_more.true) c.loop-i.invariant.written).0

pub returns-then-not-said_more-clause-text : goal.returns-then-not-said_more-clause-text
returns-then-not-said_more-clause-text c =
    (stopped _ _ _ _ (omega arith) (told c.said_more.ensures c.if-not-said_more.true) c.loop-i.invariant.written).1

pub loop-i-preserved : goal.loop-i-preserved
loop-i-preserved c = record {
  same = search rules;
  same_report = search rules;
  written = one_more _ _ _ _ _ _ _ refl (told c.said_more.ensures c.if-not-said_more.false) c.loop-i.invariant.written
      c.play_record-last.ensures.outcome c.put_said.ensures.text;
}
