-- What the functions on messages ask: memories as long as the run needs, and a word that has a cell.
use Rattle.std.specs.Prelude.{ℕ, ◌≤◌, false, length}
use Rattle.model.specs.declared.Numbers.{Numbers}
use Rattle.model.specs.declared.Round.TheVariants.{Idle}
use Rattle.model.specs.declared.Sort.{Sort}
use Rattle.model.specs.declared.Sort.TheVariants.{Proposals, States, Votes, Notices}
use Rattle.model.specs.declared.Word.{Word}
use Rattle.model.specs.Rack.{Messages, no_counts, Replica}
use Rattle.tables.specs.Layout.{Tables, words_need, orders_need, ballots_need}
use Rattle.tables.specs.Bounds.{Bounds}
use Rattle.tables.specs.Write.{word_number}

pub record Reach (N : Numbers) (t : Tables) : Type 0 where
  pub bounds : Bounds N
  pub words : words_need N ≤ length t.words
  pub orders : orders_need N ≤ length t.orders
  pub ballots : ballots_need N ≤ length t.ballots

-- a word that fits the cell of its sort; a notice has none
abbrev pub Fitting : Sort → Word → Type 0
Fitting Proposals w = Unit {0}
Fitting States w = word_number w ≤ 3
Fitting Votes w = word_number w ≤ 3
Fitting Notices w = Unit {0}

-- a replica as far as the rules of an advance and a hear read it: its slot and phase, and what it has heard
abbrev pub reading : ℕ → ℕ → Messages → Replica
reading s p inbox = record { crashed = false; round = Idle; closed = s; phase = p; counts = no_counts; entry = λ t. 0; held = λ x. false; inbox = inbox }
