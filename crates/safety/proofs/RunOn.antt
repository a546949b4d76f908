-- A run on ends: each advance that goes on brings its replica nearer to the end of its slot, and the definition allows more
-- advances than that takes.
use Rattle.std.specs.Prelude.{ℕ, ◌<◌, true, List, ◌≡◌}
use Rattle.safety.specs.Types.{Numbers, ReplicaId}
use Rattle.model.specs.Rack.{Replica}
use Rattle.model.specs.Rules.{decide}
use Rattle.model.specs.Scripts.{play, advance, goes_on, RunsOn, most_advances, run_on}
use Rattle.model.specs.History.{History, take_step, on_history}
use Rattle.model.proofs.Playing.{run_ends}
use Rattle.safety.proofs.Comes.{comes}
use Rattle.safety.specs.RunOn.{fewer, left, left_below}

module _ (N : Numbers) where
  open N use {phases}

  abbrev left_to : Replica → ℕ
  left_to k = left N k.round k.phase

  -- ---- so a run on ends

  module _ (strip : List ℕ) (c : ReplicaId) where
    fewer_after : (h : History) → goes_on (decide N strip (advance c) h.rack) ≡ true
        → left_to ((take_step N strip (advance c) h).rack.at c.0) < left_to (h.rack.at c.0)
    unfolding take_step
    fewer_after h = fewer N h.rack c.0 (comes N h.rack strip (advance c))

    pub runs_on : (h : History) → RunsOn (on_history N strip) c 0 h (play (on_history N strip) (run_on N c) h)
    runs_on h = run_ends (on_history N strip) c (λ h. left_to (h.rack.at c.0)) fewer_after (most_advances N) 0 h (left_below N _ _)
