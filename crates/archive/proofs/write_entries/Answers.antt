use mathlib.Core.Path.{refl}
use native.Mathlib.Omega.{arith}
use Rattle.shelf.specs.Planes.{upto, entry_count, entry_at}
use Rattle.archive.proofs.FillLaws.{one_behind}
use Rattle.archive.proofs.write_entries.Goals as goal

pub loop-place-init : goal.loop-place-init
unfolding upto
loop-place-init c = refl

pub loop-place-preserved : goal.loop-place-preserved
loop-place-preserved c =
    let stored = c.args.stored.now in
    let l = c.loop-place in
    let here = rw c.requires.1 at c.read_entry.ensures in
    one_behind (entry_at (entry_count stored) stored) l.entries l.place (omega arith) l.invariant here
