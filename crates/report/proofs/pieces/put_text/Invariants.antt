use Rattle.std.specs.Prelude.{◌≡◌, take}
use Rattle.files.specs.Page.{shown, print}
use Rattle.report.proofs.pieces.put_text.Given as goal

abbrev pub invariant-loop-byte : goal.invariant-loop-byte
invariant-loop-byte l = record {
  same : l.report.bytes.ghost_name ≡ l.initial.report.bytes.ghost_name;
  text : shown l.report ≡ print (shown l.initial.report) (take l.byte-index l.word);
}
