-- The part of each table that a run needs: it is there, and what is behind it is as the opening found it. A store inside
-- the part keeps both.
use Rattle.std.specs.Prelude.{ℕ, ◌≤◌, List}
use Rattle.std.proofs.Common.{arith}
use Rattle.tables.specs.declared.Record.{Record}
use Rattle.tables.specs.Layout.{record_end, record_stored}
use Rattle.demand.specs.Parts.{Part, part_stored}

pub record_part : {need : ℕ} {before now : List ℕ} → Part need before now → (c : ℕ) (k : Record) → record_end c ≤ need
    → Part need before (record_stored now c k)
unfolding record_stored
record_part part c k h =
    part_stored (part_stored (part_stored (part_stored (part_stored (part_stored part _ k.crashed (omega arith)) _ k.round (omega arith))
    _ k.slot (omega arith)) _ k.phase (omega arith)) _ k.empty (omega arith)) _ k.fast (omega arith)
