-- Laws of a table of records: what is read after a record was stored.
use Rattle.std.specs.Prelude.{ℕ, ◌+◌, ◌≤◌, List, ◌≢◌, ◌≡◌, length}
use Rattle.std.proofs.Common.{arith}
use Rattle.tables.specs.Types.{Record}
use Rattle.tables.specs.Layout.{record_cell, record_end, record_at, record_stored}
use Rattle.tables.specs.Records.{other_word}

module _ (ws : List ℕ) (c : ℕ) (k : Record) (there : record_end c ≤ length ws) where
  pub other_record : (d : ℕ) → d ≢ c → record_at (record_stored ws c k) d ≡ record_at ws d
  unfolding record_at
  other_record d ne = λ i. record {
    crashed = other_word ws c k there d (record_cell d) ne (omega arith) (omega arith) i;
    round = other_word ws c k there d (record_cell d + 1) ne (omega arith) (omega arith) i;
    slot = other_word ws c k there d (record_cell d + 2) ne (omega arith) (omega arith) i;
    phase = other_word ws c k there d (record_cell d + 3) ne (omega arith) (omega arith) i;
    empty = other_word ws c k there d (record_cell d + 4) ne (omega arith) (omega arith) i;
    fast = other_word ws c k there d (record_cell d + 5) ne (omega arith) (omega arith) i;
  }
