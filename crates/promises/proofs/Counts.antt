-- Document 02, "Counts on the controller's card", of any memories: "3 also when either count exceeds the closed slots", in every call that
-- is lent the record; and a crash keeps the counts.
use Rattle.std.specs.Prelude.{ℕ, ◌≤◌, ◌<◌, true, List, ◌≡◌, length}
use Rattle.std.proofs.Math.Option.{some as just}
use Rattle.std.proofs.Common.{◌∙◌}
use Rattle.tables.specs.Types.{Numbers, SpoiledRecord, Call}
use Rattle.tables.specs.Layout.{Tables, record_end, record_at}
use Rattle.tables.specs.Checks.{overcounted}
use Rattle.tables.specs.Calls.{called}
use Rattle.promises.specs.Order.{turned_away}
use Rattle.promises.specs.Refusals.{call_answers}
use Rattle.promises.specs.Counts.{first_is_3, looks_at_all}

module _ (N : Numbers) where
  -- of one of the n replicas whose record is there, whoever acts
  module _ (t : Tables) (strip : List ℕ) (c : ℕ) (of-run : c < N.n) (there : record_end c ≤ length t.words)
      (over : overcounted (record_at t.words c) ≡ true) where
    pub overcounted_refused : (a : Call) → looks_at_all a ≡ true → turned_away (called N a t strip).answer ≡ just SpoiledRecord
    overcounted_refused a h = call_answers N a t strip ∙ first_is_3 N t strip c of-run there over a h
