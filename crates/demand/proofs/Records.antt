-- Laws of a replica's own tables: the records after one was stored, and the logs after an entry was.
use Rattle.std.specs.Prelude.{ℕ, ◌≤◌, ◌<◌, List, ◌≡◌, length, set as store_at}
use Rattle.std.proofs.Common.{◌∙◌, ap, get_or-set_other}
use Rattle.std.proofs.Math.Path.{fun_ext}
use Rattle.tables.specs.Types.{Numbers}
use Rattle.model.specs.Tests.{set}
use Rattle.model.proofs.Cases.{set-ind}
use Rattle.tables.specs.Layout.{log_cell, orders_need}
use Rattle.tables.specs.View.{log_in}
use Rattle.tables.specs.Addresses.{one_log}
use Rattle.demand.specs.Cells.{below_ext, below_set}
use Rattle.demand.specs.Records.{same_log}

-- ---- logs

module _ (N : Numbers) (logs : List ℕ) (long : orders_need N ≤ length logs) (c s x : ℕ) (hc : c < N.n) (hs : s < N.slots) where
  pub logs_set : log_in N (store_at logs (log_cell N c s) x) ≡ set c (set s x (log_in N logs c)) (log_in N logs)
  logs_set = fun_ext (λ d. set-ind (λ (g : ℕ → ℕ). log_in N (store_at logs (log_cell N c s) x) d ≡ g) c (log_in N logs) d
      (λ e. ap (log_in N (store_at logs (log_cell N c s) x)) e ∙ below_ext N.slots 0 (same_log N logs long c s x hc hs) ∙ below_set N.slots 0 _ s x hs)
      (λ ne. below_ext N.slots 0 (λ s' hs'.
      get_or-set_other logs (log_cell N c s) (log_cell N d s') x 0 (λ q. ne (one_log N d s' c s hs' hs q).0))))
