-- The program's tables are large enough: every opening within the limits and not larger than its numbers is accepted on them.
use Rattle.std.specs.Prelude.{ℕ, ◌*◌, ◌≤◌, true, List, ◌≡◌, leb, length, replicate}
use Rattle.std.proofs.Common.{arith, le-leb}
use Rattle.std.proofs.lemmas.List.{length-replicate}
use Rattle.model.specs.declared.Numbers.{Numbers}
use Rattle.model.specs.declared.Plan.{Plan}
use Rattle.model.specs.declared.Call.TheVariants.{Open}
use Rattle.model.specs.declared.Answer.{Answer}
use Rattle.model.specs.Limits.{planned, plan_limited}
use Rattle.model.proofs.Cases.{and_both}
use Rattle.tables.specs.Layout.{words_need, orders_need, ballots_need}
use Rattle.tables.specs.Checks.{lengths, long}
use Rattle.files.specs.declared.Player.{Player}
use Rattle.files.specs.Found.{None}
use Rattle.files.specs.Play.{called_in_place}
use Rattle.files.specs.Rehearsal.{most, blank, blank_strip}

abbrev zeros : ℕ → List ℕ
zeros k = replicate k 0

fits : (k : ℕ) → leb k (length (zeros k)) ≡ true
fits k = let e = length-replicate {A = ℕ} k 0 in le-leb k (length (zeros k)) (omega arith)

pub blank_long : long most (lengths blank) ≡ true
unfolding blank long
blank_long = and_both _ _ (fits (words_need most)) (and_both _ _ (fits (orders_need most)) (fits (ballots_need most)))

pub blank_coins : most.slots * most.phases ≤ length blank_strip
unfolding blank_strip
blank_coins = rw length-replicate (omega arith)

-- what the program answers to an opening within the limits, if none was accepted before: refused records leave its tables blank
-- (`refused_turn_unchanged`, specs/Unchanged)
module _ (p : Player) (q : Plan) (shut : p.opened ≡ None) (limits : plan_limited q ≡ true) where
  abbrev N : Numbers
  N = planned q

  abbrev answer : Answer
  answer = (called_in_place most p (Open q) blank blank_strip).answer
