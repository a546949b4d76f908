-- The program's tables are large enough: every opening within the limits and not larger than its numbers is accepted on them.
use Rattle.std.specs.Prelude.{◌≤◌, Bool, true, false, ◌≡◌, refl, ltb}
use Rattle.std.proofs.Common.{sym, ◌∙◌, le-ltb, ltb-true, ltb-false}
use Rattle.std.proofs.Math.Path.{ap}
use Rattle.model.specs.declared.Numbers.{Numbers}
use Rattle.model.specs.declared.Plan.{Plan}
use Rattle.model.specs.declared.Call.TheVariants.{Open}
use Rattle.model.specs.declared.Refusal.TheVariants.{ShortTable}
use Rattle.model.specs.declared.Answer.{Answer}
use Rattle.model.specs.declared.Answer.TheVariants.{Refused, Opened}
use Rattle.model.specs.Limits.{planned, plan_limited}
use Rattle.model.specs.Tests.{if}
use Rattle.tables.specs.Calls.{OpenOutcome, open_rack, called}
use Rattle.files.specs.declared.Player.{Player}
use Rattle.files.specs.Found.{None, is_opened}
use Rattle.files.specs.Play.{too_large, called_in_place}
use Rattle.files.specs.Room.{opens_within}
use Rattle.files.specs.LargeLaws.{large_slots, large_phases, large_room}
use Rattle.files.specs.PlayLaws.{on_large, on_call}
use Rattle.files.specs.Rehearsal.{most, blank, blank_strip}
use Rattle.files.specs.Enough.{blank_coins, blank_long}

pub opens_here : (q : Plan) → plan_limited q ≡ true → too_large most (Open q) ≡ false → (open_rack q blank blank_strip).answer ≡ Opened (planned q)
opens_here q limits small = opens_within most q limits small blank blank_strip blank_long blank_coins

-- what the program answers to an opening within the limits, if none was accepted before: refused records leave its tables blank
-- (`refused_turn_unchanged`, specs/Unchanged)
module _ (p : Player) (q : Plan) (shut : p.opened ≡ None) (limits : plan_limited q ≡ true) where
  abbrev N : Numbers
  N = planned q

  abbrev answer : Answer
  answer = (called_in_place most p (Open q) blank blank_strip).answer

  answered : {b : Bool} → b ≡ too_large most (Open q) → answer ≡ if b (Refused ShortTable) (Opened N)
  unfolding if called
  answered {b = true} l = ap (λ (o : OpenOutcome). o.answer) (sym (on_large most p (Open q) blank blank_strip (ap is_opened shut) (sym l)))
  answered {b = false} l =
      ap (λ (o : OpenOutcome). o.answer) (sym (on_call most p (Open q) blank blank_strip (ap is_opened shut) (sym l) refl))
      ∙ opens_here q limits (sym l)

  -- document 02: "2 in the rehearsal program now begins above 16 phases"
  pub above_16 : N.n ≤ most.n → N.slots ≤ most.slots → N.room ≤ most.room → answer ≡ if (ltb 16 N.phases) (Refused ShortTable) (Opened N)
  above_16 n slots room = answered (by_phases _ refl)
    where
      by_phases : (b : Bool) → ltb 16 N.phases ≡ b → b ≡ too_large most (Open q)
      by_phases true e = large_phases most q limits refl n slots (ltb-true _ _ e)
      by_phases false e = sym (le-ltb most.room N.room room) ∙ large_room most q limits refl n slots (ltb-false _ _ e)

  -- and its tables stay as they are: above 16 slots an opening within the limits, so up to 1,024, gets 2
  pub bands_above_16 : N.n ≤ most.n → N.phases ≤ most.phases → N.room ≤ most.room → answer ≡ if (ltb 16 N.slots) (Refused ShortTable) (Opened N)
  bands_above_16 n phases room = answered (by_slots _ refl)
    where
      by_slots : (b : Bool) → ltb 16 N.slots ≡ b → b ≡ too_large most (Open q)
      by_slots true e = large_slots most q limits refl n (ltb-true _ _ e)
      by_slots false e = sym (le-ltb most.room N.room room) ∙ large_room most q limits refl n (ltb-false _ _ e) phases
