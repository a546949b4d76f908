-- The notice that an advance heeds.
use Rattle.std.specs.Prelude.{ℕ}
use Rattle.model.specs.declared.Numbers.{Numbers}
use Rattle.model.specs.declared.Word.{Word}
use Rattle.model.specs.Rules.{notice}
use Rattle.tables.specs.Layout.{Tables}
use Rattle.tables.specs.View.{guarded, inbox_in}
use Rattle.messages.specs.Reach.{reading}

-- of slot s, as the memories say that replica c has heard it; of a slot that has no row there is none
abbrev pub noticed : Numbers → ℕ → ℕ → Tables → Word
noticed N c s t = notice N (reading s 0 (guarded N (inbox_in N t.words t.orders t.ballots c)))
