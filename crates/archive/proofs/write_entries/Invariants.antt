-- The entries before `place` stand.
use mathlib.Core.Path.{◌≡◌}
use mathlib.Core.List.{map}
use lib.ListN.{take}
use Rattle.shelf.specs.Planes.{upto, entry_count, entry_at}
use Rattle.archive.proofs.write_entries.Given as goal

abbrev pub invariant-loop-place : goal.invariant-loop-place
invariant-loop-place l = take l.place l.entries ≡ map (entry_at (entry_count l.stored) l.stored) (upto l.place)
