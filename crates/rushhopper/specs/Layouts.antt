-- The number of the layout: of the structs that cross the C boundary, and of the lent memories (docs/TABLES.md). A request that moves
-- anything there raises it, so that a program built with an older header is told so.
use Rattle.std.specs.Prelude.{ℕ}

abbrev pub layout_number : ℕ
layout_number = 1
