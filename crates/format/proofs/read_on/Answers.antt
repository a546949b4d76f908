use borrow.Author.Tests.{le-leb, lt-leb, le-ltb, lt-ltb}
use Rattle.model.specs.Tests.{if}
use Rattle.files.specs.Format.{last_kind, file_record}
use Rattle.format.specs.Kinds.{kind_number}
use Rattle.format.proofs.KindLaws.{few, stopped}
use Rattle.format.proofs.read_on.Goals as goal

pub returns-then-file-at : goal.returns-then-file-at
unfolding file_record if
returns-then-file-at c = rw (le-leb _ _ c.if-file-at.true)

pub returns-in_err-kind : goal.returns-in_err-kind
unfolding file_record if
returns-in_err-kind c = let h = c.in_err-kind.ensures in
    rw (lt-leb _ _ c.if-file-at.false, lt-ltb _ _ h.0) (stopped _ _ c.from_residual.ensures.1 h.1)

pub returns-then-file-at-2 : goal.returns-then-file-at-2
unfolding file_record if
returns-then-file-at-2 c = rw (
  lt-leb _ _ c.if-file-at.false,
  ← c.in_ok-kind.ensures,
  le-ltb last_kind (kind_number c.in_ok-kind.kind) (few c.in_ok-kind.kind),
  ← c.body_length-body.ensures,
  lt-ltb _ _ c.if-file-at-2.true,
)

pub returns : goal.returns
unfolding file_record if
returns c = rw (
  lt-leb _ _ c.if-file-at.false,
  ← c.in_ok-kind.ensures,
  le-ltb last_kind (kind_number c.in_ok-kind.kind) (few c.in_ok-kind.kind),
  ← c.body_length-body.ensures,
  le-ltb _ _ c.if-file-at-2.false,
  c.call_at.ensures,
)
