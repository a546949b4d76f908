-- What stands in lent memory, and what a call leaves in it; and for callers in C the three tables at a call's two moments.
use Rattle.std.specs.Prelude.{ℕ, List, ◌≡◌}
use Rattle.std.specs.Borrow.{MutBor}
use denote.Triple.Both.{Both}
use Rattle.tables.specs.Types.{Memory, MemoryRef}
use Rattle.tables.specs.Layout.{Tables}
use Rattle.tables.specs.Calls.{tables}

-- what stands in memory
abbrev pub held : Memory → Tables
held m = tables m.words.now m.orders.now m.ballots.now

-- what stands in memory that is lent to be read alone
abbrev pub read : MemoryRef → Tables
read m = tables m.words.now m.orders.now m.ballots.now

-- what was lent to be read are the tables of this memory
pub record Reads (m : Memory) (r : MemoryRef) : Type 0 where
  pub words : r.words.now ≡ m.words.now
  pub orders : r.orders.now ≡ m.orders.now
  pub ballots : r.ballots.now ≡ m.ballots.now

pub reads_held : {m : Memory} {r : MemoryRef} → Reads m r → read r ≡ held m
reads_held e = λ i. tables (e.words i) (e.orders i) (e.ballots i)

-- it is the same memory still, whatever stands in it now: each table is the one that was lent
pub record Same (m n : Memory) : Type 0 where
  pub words : n.words.ghost_name ≡ m.words.ghost_name
  pub orders : n.orders.ghost_name ≡ m.orders.ghost_name
  pub ballots : n.ballots.ghost_name ≡ m.ballots.ghost_name

abbrev pub Lent : Type 0
Lent = Both (MutBor (List ℕ)) (MutBor (List ℕ))

abbrev pub moments : Lent → Lent → Lent → Both Tables Tables
moments ws os bs = record {
  entry = tables ws.entry.now os.entry.now bs.entry.now;
  exit = tables ws.exit.now os.exit.now bs.exit.now;
}
