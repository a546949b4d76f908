-- The rehearsal program's report of a step file.
use Rattle.std.specs.Prelude.{ℕ, ◌*◌, List, replicate}
use Rattle.model.specs.declared.Numbers.{Numbers}
use Rattle.tables.specs.Layout.{Tables, words_need, orders_need, ballots_need}
use Rattle.tables.specs.Calls.{tables}
use Rattle.files.specs.Reported.{report}

-- "with tables for 7 controllers, 16 slots, 8 phases and 64 tags; larger openings get refusal 2"; document 02: "The rehearsal
-- program's tables grow to 16 phases."
abbrev pub most : Numbers
most = record { n = 7; f = 3; slots = 16; phases = 16; room = 64 }

-- the memories that runs of these numbers need
unfoldable pub blank : Tables
blank = tables (replicate (words_need most) 0) (replicate (orders_need most) 0) (replicate (ballots_need most) 0)

unfoldable pub blank_strip : List ℕ
blank_strip = replicate (most.slots * most.phases) 0

unfoldable pub rehearsal : List ℕ → List ℕ
rehearsal file = report most file blank blank_strip
