-- What the conductor has found of a rack where none of its own refusals is met.
use Rattle.std.specs.Prelude.{◌<◌, ◌≡◌}
use Rattle.model.specs.declared.Numbers.{Numbers}
use Rattle.model.specs.Rack.{Rack}
use Rattle.model.specs.Conductor.{is_running, common_slot, common_tag, lacks}
use Rattle.survey.specs.Marked.{Marked}
use Rattle.conduct.specs.declared.Found.{Found}

pub record Seen (N : Numbers) (r : Rack) (found : Found) : Type 0 where
  pub running : Marked N.n (is_running N r) found.running
  pub lacking : Marked N.n (lacks N r found.tag) found.lacking
  pub slot : found.slot ≡ common_slot N r
  pub below : found.slot < N.slots
  pub tag : found.tag ≡ common_tag N r
