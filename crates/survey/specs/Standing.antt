-- What is asked of one replica, in the code's terms: of its record, of what it has sent, of its tags.
use Rattle.std.specs.Prelude.{ℕ, suc, ◌+◌, Bool, not, ◌&&◌, ◌||◌, List, eqb}
use Rattle.model.specs.declared.Numbers.{Numbers}
use Rattle.model.specs.declared.Round.TheVariants.{Idle}
use Rattle.model.specs.declared.Sort.TheVariants.{States, Votes}
use Rattle.model.specs.Rack.{is_sent, Messages}
use Rattle.model.specs.Rules.{pending}
use Rattle.tables.specs.declared.Record.{Record}
use Rattle.tables.specs.Layout.{has_bit, with_bit}
use Rattle.tables.specs.View.{closed_in}
use Rattle.known.specs.Room.{as_holder}
use Rattle.survey.specs.declared.running.Running.{Running}

abbrev pub runs : Record → Bool
runs k = eqb k.crashed 0

-- it is running, and in a round or at another slot
abbrev pub uneven_record : ℕ → Record → Bool
uneven_record s k = runs k && not (eqb k.round 0 && eqb k.slot s)

-- those found so far and replica c, which is running
abbrev pub joined : Running → ℕ → Record → Running
joined found c k = record { mask = with_bit found.mask c; count = found.count + 1; slot = k.slot }

-- it has sent a state or a vote of a slot and of the phase behind p
abbrev pub balloted : Messages → ℕ → ℕ → ℕ → Bool
balloted sent s d p = is_sent (sent States s (suc p) d) || is_sent (sent Votes s (suc p) d)

module _ (N : Numbers) (running : ℕ) (ws os : List ℕ) where
  -- replica c is one of the running ones, and a tag is pending there
  unfoldable pub waits : ℕ → ℕ → Bool
  waits c x = has_bit running c && pending (as_holder N c Idle (closed_in ws c) ws os) x
