-- Document 02, "The conductor": its conditions in the document's words, each proved equal to what its refusal tests.
use Rattle.std.specs.Prelude.{ℕ, ◌<◌, not}
use Rattle.std.proofs.Common.{ap}
use Rattle.tables.specs.Types.{Numbers}
use Rattle.model.specs.Rack.{Rack}
use Rattle.model.specs.Conductor.{running_count, common_slot, level}
use Rattle.model.proofs.Cases.{and_both}
use Rattle.tables.specs.Layout.{Tables}
use Rattle.tables.specs.View.{view}
use Rattle.promises.specs.Conditions.{Exactly}
use Rattle.promises.specs.Level.{Level, all_even, all_silent, is_level}

-- ---- 22, "not level": "if the starting condition fails"

module _ (N : Numbers) (t : Tables) where
  open N use {n, slots, phases}

  abbrev r : Rack
  r = view N t

  module _ (some : 0 < running_count N r) where
    abbrev s : ℕ
    s = common_slot N r

    pub level_exactly : Exactly (level N r s) (Level N r)
    level_exactly = (is_level N t some, λ h. and_both _ _ (ap not (all_even N t some h)) (ap not (all_silent N t some h)))
