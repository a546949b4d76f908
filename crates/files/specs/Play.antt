-- A step file is played: "A record of a step file first meets 19, 20, 21", then it counts as the call that it makes.
use Rattle.std.specs.Prelude.{ℕ, zero, suc, Bool, true, false, not, ◌&&◌, ◌||◌, List, [], ◌∷◌, ltb}
use Rattle.model.specs.declared.Numbers.{Numbers}
use Rattle.model.specs.declared.Refusal.TheVariants.{ShortTable, OutOfPlace}
use Rattle.model.specs.declared.Call.{Call}
use Rattle.model.specs.declared.Call.TheVariants.{Open, Single, RunOn, Conduct}
use Rattle.model.specs.declared.Answer.{Answer}
use Rattle.model.specs.declared.Answer.TheVariants.{Refused, Done, Ran, Opened, Conducted}
use Rattle.model.specs.Answers.{refusal_number, answer_number, answer_values}
use Rattle.model.specs.Tests.{if}
use Rattle.model.specs.Limits.{planned, plan_limited}
use Rattle.model.specs.TurnedAway.{Ground, ◌when◌, unless}
use Rattle.tables.specs.Layout.{Tables}
use Rattle.tables.specs.Calls.{OpenOutcome, open_outcome, called}
use Rattle.files.specs.Found.{Found, Said, Option, Ok, Err, None, Some, is_opened, run_numbers}
use Rattle.files.specs.declared.Player.{Player}
use Rattle.files.specs.Format.{file_record}

-- document 01's number and values of what is said: of the file's end 0 and none
abbrev pub said_number : Said → ℕ
said_number (Ok None) = 0
said_number (Err why) = refusal_number why
said_number (Ok (Some a)) = answer_number a

abbrev pub said_values : Said → List ℕ
said_values (Ok None) = []
said_values (Err why) = []
said_values (Ok (Some a)) = answer_values a

-- what a record comes to: what is said of it, with its number and values, where the player stands then, and everything lent
pub record Turn : Type 0 where
  pub said : Said
  pub number : ℕ
  pub values : List ℕ
  pub player : Player
  pub tables : Tables
  pub strip : List ℕ

abbrev pub turn_of : Said → Player → Tables → List ℕ → Turn
turn_of s p t strip = record { said = s; number = said_number s; values = said_values s; player = p; tables = t; strip = strip }

-- "step before an accepted opening, or opening after one"
abbrev pub out_of_place : Bool → Call → Bool
out_of_place opened (Open q) = opened
out_of_place opened (Single a) = not opened
out_of_place opened (RunOn c) = not opened
out_of_place opened Conduct = not opened

-- an opening that is within the limits, but larger than the player's tables
abbrev pub too_large : Numbers → Call → Bool
too_large most (Open q) = let N = planned q in
    plan_limited q && (ltb most.n N.n || (ltb most.slots N.slots || (ltb most.phases N.phases || ltb most.room N.room)))
too_large most (Single a) = false
too_large most (RunOn c) = false
too_large most Conduct = false

-- the run behind an answer: an accepted opening gives its numbers
abbrev pub opened_by : Answer → Option Numbers → Option Numbers
opened_by (Refused why) run = run
opened_by Done run = run
opened_by (Ran k) run = run
opened_by (Opened N) run = Some N
opened_by (Conducted k m) run = run

-- the player behind a record
abbrev pub moved_on : Player → ℕ → Answer → Player
moved_on p next a = record { at = next; opened = opened_by a p.opened }

abbrev pub answered : Player → ℕ → OpenOutcome → Turn
answered p next o = turn_of (Ok (Some o.answer)) (moved_on p next o.answer) o.tables o.strip

-- refusal 21, then 2 for an opening that is too large, then the call's own
abbrev pub place_refusals : Numbers → Player → Call → List Ground
place_refusals most p a = OutOfPlace when out_of_place (is_opened p.opened) a ∷ ShortTable when too_large most a ∷ []

unfoldable pub called_in_place : Numbers → Player → Call → Tables → List ℕ → OpenOutcome
called_in_place most p a t strip = unless (λ why. open_outcome (Refused why) t strip) (place_refusals most p a) (called (run_numbers p.opened) a t strip)

unfoldable pub turned : Numbers → Player → Tables → List ℕ → ℕ → Found → Turn
turned most p t strip next (Ok None) = turn_of (Ok None) p t strip
turned most p t strip next (Err why) = turn_of (Err why) p t strip
turned most p t strip next (Ok (Some a)) = answered p next (called_in_place most p a t strip)

unfoldable pub turn : Numbers → List ℕ → Player → Tables → List ℕ → Turn
turn most file p t strip = let r = file_record file p.at in turned most p t strip r.next r.found

abbrev pub goes_on : Said → Bool
goes_on (Ok None) = false
goes_on (Err why) = false
goes_on (Ok (Some a)) = true

-- one record more, unless the file has ended or reading has stopped
abbrev pub turn_on : Numbers → List ℕ → Turn → Turn
turn_on most file x = if (goes_on x.said) (turn most file x.player x.tables x.strip) x

-- so many records, in order
unfoldable pub play : ℕ → Numbers → List ℕ → Turn → Turn
play zero most file x = x
play (suc k) most file x = turn_on most file (play k most file x)

-- where playing begins
abbrev pub begun : Player → Tables → List ℕ → Turn
begun p t strip = turn_of (Ok (Some Done)) p t strip
