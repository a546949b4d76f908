-- What the functions on tags ask, and the replica as the rules of submit, relay and begin read it.
use Rattle.std.specs.Prelude.{ℕ, ◌≤◌, ◌<◌, true, false, List, ◌⊎◌, ◌≢◌, ◌≡◌, length, get_or, take}
use Rattle.model.specs.declared.Numbers.{Numbers}
use Rattle.model.specs.declared.Round.{Round}
use Rattle.model.specs.Tests.{listed}
use Rattle.model.specs.Rack.{Replica, silence, no_counts}
use Rattle.tables.specs.Layout.{known_in, words_need, orders_need}
use Rattle.tables.specs.Bounds.{Bounds}
use Rattle.tables.specs.View.{holds, log_in}

-- the known tags and their holders stand in memories as long as the run needs
pub record Room (N : Numbers) (ws os : List ℕ) : Type 0 where
  pub bounds : Bounds N
  pub known : known_in ws ≤ N.room
  pub words : words_need N ≤ length ws
  pub orders : orders_need N ≤ length os

-- a replica of the run acts in them
pub record Acting (N : Numbers) (c : ℕ) (ws os : List ℕ) : Type 0 where
  pub who : c < N.n
  pub room : Room N ws os

-- a replica, as far as submit, relay and begin read it
abbrev pub as_holder : Numbers → ℕ → Round → ℕ → List ℕ → List ℕ → Replica
as_holder N c a s ws os = record {
  crashed = false;
  round = a;
  closed = s;
  phase = 0;
  counts = no_counts;
  entry = log_in N os c;
  held = holds N (known_in ws) os ws c;
  inbox = silence;
}

-- a tag is listed among the k known ones, or there is room left for one more
abbrev pub Storable : Numbers → ℕ → ℕ → List ℕ → Type 0
Storable N x k ts = (listed x (take k ts) ≡ true) ⊎ (k < N.room)

-- x stands in none of the cells from a on up to b, b not included
pub record Absent (cells : List ℕ) (x a b : ℕ) : Type 0 where
  pub apart : (j : ℕ) → a ≤ j → j < b → get_or cells j 0 ≢ x

-- the first of these cells that has x, or b
pub record FirstPlace (cells : List ℕ) (x a b r : ℕ) : Type 0 where
  pub from : a ≤ r
  pub to : r ≤ b
  pub has : r < b → get_or cells r 0 ≡ x
  pub absent : Absent cells x a r
