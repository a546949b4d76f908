-- What an effect needs of the tables to be stored: a place for each cell that it stores.
use Rattle.std.specs.Prelude.{ℕ, ◌≤◌, ◌<◌, Bool, true, false, List, length}
use Rattle.model.specs.declared.Numbers.{Numbers}
use Rattle.model.specs.declared.Effect.{Effect}
use Rattle.model.specs.declared.Effect.TheVariants.{Refuse, Hold, Send, Close, Seek, Receive, Halt}
use Rattle.tables.specs.declared.Record.{Record}
use Rattle.tables.specs.Layout.{mask_bits, Tables, known_in, record_end, record_at, words_need, orders_need, ballots_need}
use Rattle.tables.specs.Bounds.{Bounds}
use Rattle.tables.specs.Addresses.{Within}
use Rattle.tables.specs.Sound.{CountsFit}
use Rattle.messages.specs.Reach.{Fitting}
use Rattle.known.specs.Room.{Storable}

-- the record of replica c is there
pub record RecordThere (c : ℕ) (ws : List ℕ) : Type 0 where
  pub few : c < mask_bits
  pub there : record_end c ≤ length ws

-- replica c acts in memories as long as the run needs
pub record Ready (N : Numbers) (c : ℕ) (t : Tables) : Type 0 where
  pub bounds : Bounds N
  pub who : c < N.n
  pub known : known_in t.words ≤ N.room
  pub words : words_need N ≤ length t.words
  pub orders : orders_need N ≤ length t.orders
  pub ballots : ballots_need N ≤ length t.ballots

abbrev pub slot_of : ℕ → Tables → ℕ
slot_of c t = (record_at t.words c).slot

-- a record whose slot can be closed, and whose counts can be raised
pub record Closable (N : Numbers) (k : Record) : Type 0 where
  pub low : k.slot < N.slots
  pub counts : CountsFit k

abbrev pub Doable : Numbers → ℕ → Effect → Tables → Type 0
Doable N c (Refuse why) t = Unit {0}
Doable N c (Hold x) t = Ready N c t × Storable N x (known_in t.words) t.orders
Doable N c (Send so p w) t = Ready N c t × Within N so (slot_of c t) p c × Fitting so w
Doable N c (Close x own) t = Ready N c t × Closable N (record_at t.words c)
Doable N c Seek t = Ready N c t
Doable N c (Receive so s p d w) t = Ready N c t × Within N so s p d
Doable N c Halt t = RecordThere c t.words

-- what an advance may come to
abbrev pub by_advance : Effect → Bool
by_advance = elim [ Refuse why ↦ true | Hold x ↦ false | Send so p w ↦ true | Close x own ↦ true | Seek ↦ true | Receive so s p d w ↦ false | Halt ↦ false ]
