-- Document 01, "Rehearsal program": what is written of a step file that is played.
use Rattle.std.specs.Prelude.{ℕ, zero, suc, List, [], ◌++◌, length}
use Rattle.model.specs.declared.Numbers.{Numbers}
use Rattle.model.specs.declared.Answer.TheVariants.{Refused, Done, Ran, Opened, Conducted}
use Rattle.model.specs.Tests.{if}
use Rattle.tables.specs.Layout.{Tables}
use Rattle.tables.specs.View.{view}
use Rattle.files.specs.Lines.{opened_line, refused_line, bench_lines}
use Rattle.files.specs.declared.Player.{Player}
use Rattle.files.specs.Found.{Said, Option, Ok, Err, None, Some}
use Rattle.files.specs.Play.{Turn, goes_on, turn_on, play, begun}

-- the line of record k. "A refusal 19 or 20 has its line like any other"
unfoldable pub said_line : ℕ → Said → List ℕ
said_line k (Ok None) = []
said_line k (Err why) = refused_line k why
said_line k (Ok (Some (Refused why))) = refused_line k why
said_line k (Ok (Some Done)) = []
said_line k (Ok (Some (Ran count))) = []
said_line k (Ok (Some (Opened N))) = opened_line N
said_line k (Ok (Some (Conducted steps relays))) = []

-- what the next record adds, as number k
unfoldable pub line_on : ℕ → Numbers → List ℕ → Turn → List ℕ
line_on k most file x = if (goes_on x.said) (said_line k (turn_on most file x).said) []

-- the lines of so many records
unfoldable pub lines : ℕ → Numbers → List ℕ → Turn → List ℕ
lines zero most file x = []
lines (suc k) most file x = lines k most file x ++ line_on (suc k) most file (play k most file x)

-- "at the end, if opened, a line per controller", by the rack that the tables stand for
abbrev pub ending_of : Option Numbers → Tables → List ℕ
ending_of None t = []
ending_of (Some N) t = bench_lines N.n (view N t).at

abbrev pub ending : Turn → List ℕ
ending x = ending_of x.player.opened x.tables

-- before the first record
abbrev pub fresh : Player
fresh = record { at = 0; opened = None }

-- the whole file: it has fewer records than bytes
unfoldable pub whole : Numbers → List ℕ → Tables → List ℕ → Turn
whole most file t strip = play (length file) most file (begun fresh t strip)

unfoldable pub report : Numbers → List ℕ → Tables → List ℕ → List ℕ
report most file t strip = lines (length file) most file (begun fresh t strip) ++ ending (whole most file t strip)
