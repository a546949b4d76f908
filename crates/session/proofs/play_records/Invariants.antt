use Rattle.std.specs.Prelude.{◌≡◌}
use Rattle.tables.specs.Lent.{held, Same}
use Rattle.files.specs.Play.{turn_of, begun}
use Rattle.files.specs.Page.{shown}
use Rattle.files.specs.Reported.{fresh}
use Rattle.session.proofs.ReportLaws.{Written}
use Rattle.session.proofs.play_records.Given as goal

abbrev pub invariant-loop-i : goal.invariant-loop-i
invariant-loop-i l = record {
  same : Same l.initial.memory l.memory;
  same_report : l.report.bytes.ghost_name ≡ l.initial.report.bytes.ghost_name;
  written : Written l.most l.file (shown l.initial.report) (begun fresh (held l.initial.memory) l.initial.strip) l.i
      (turn_of l.last.said l.last.player (held l.memory) l.strip) (shown l.report);
}
