-- Calls built of steps. A call is a script: written once, and played on the history of a run and on the lent tables alike.
use Rattle.std.specs.Prelude.{ℕ, zero, suc, ◌+◌, ◌*◌, Bool, true, false, not, ◌&&◌, List, [], ◌∷◌, ◌≡◌}
use Rattle.model.specs.Types.{Numbers, ReplicaId, BadPlan, ShortTable, Effect, Refuse, Hold, Send, Close, Seek}
use Rattle.model.specs.Types.{Receive, Halt, Advance, Step, Call, Open, Single, RunOn, Conduct, Answer, Refused, Done, Ran}
use Rattle.model.specs.Types.{Conducted}
use Rattle.model.specs.Tests.{if, bit}
use Rattle.model.specs.Limits.{plan_limited}
use Rattle.model.specs.Answers.{answer_number, answer_values}
use Rattle.model.specs.Rack.{Rack}
use Rattle.model.specs.TurnedAway.{Ground, unless}
use Rattle.model.specs.Conductor.{conduct_refusals, relay_steps, conduct_steps}

-- a script answers, or takes a step and goes on by what that comes to, or looks at the rack and goes on by what it sees
pub data Script : Type 0 where
  done : Answer → Script
  take : Step → (Effect → Script) → Script
  look : (Rack → Script) → Script

-- where a script is played: what a step comes to there, and what it leaves; the rack there, and what keeps a script from looking
-- at it, refusals 3 and 2
pub record Stage (S : Type 0) : Type 0 where
  pub judge : Step → S → Effect
  pub perform : Step → S → S
  pub rack : S → Rack
  pub barred : S → List Ground

-- what a call answers, with document 01's number and values of it, and what it leaves
pub record Played (S : Type 0) : Type 0 where
  pub answer : Answer
  pub number : ℕ
  pub values : List ℕ
  pub state : S

abbrev pub ended : {S : Type 0} → Answer → S → Played S
ended a s = record { answer = a; number = answer_number a; values = answer_values a; state = s }

unfoldable pub play : {S : Type 0} → Stage S → Script → S → Played S
play w (done a) s = ended a s
play w (take a next) s = play w (next (w.judge a s)) (w.perform a s)
play w (look next) s = unless (λ why. ended (Refused why) s) (w.barred s) (play w (next (w.rack s)) s)

-- ---- what an effect tells of its step

abbrev pub accepted : Effect → Bool
accepted = elim [ Refuse why ↦ false | Hold x ↦ true | Send so p w ↦ true | Close x own ↦ true | Seek ↦ true | Receive so s p d w ↦ true | Halt ↦ true ]

abbrev pub closes : Effect → Bool
closes = elim [ Refuse why ↦ false | Hold x ↦ false | Send so p w ↦ false | Close x own ↦ true | Seek ↦ false | Receive so s p d w ↦ false | Halt ↦ false ]

-- the answer of an effect: its refusal, or this one
abbrev pub answered : Answer → Effect → Answer
answered good =
    elim [ Refuse why ↦ Refused why | Hold x ↦ good | Send so p w ↦ good | Close x own ↦ good | Seek ↦ good | Receive so s p d w ↦ good | Halt ↦ good ]

-- ---- the calls

abbrev pub single : Step → Script
single a = take a (λ e. done (answered Done e))

abbrev pub advance : ReplicaId → Step
advance c = record { who = c; act = Advance }

-- an advance after which a run on goes on
abbrev pub goes_on : Effect → Bool
goes_on e = accepted e && not (closes e)

-- the answer of a run on that stops with this advance, after k that were accepted: "If the first advance is refused, so is
-- the step. The answer is the count of accepted advances"
abbrev pub stopped : ℕ → Effect → Answer
stopped zero e = answered (Ran 1) e
stopped (suc k) e = Ran (bit (accepted e) + suc k)

-- "Run on: advance repeatedly until a slot is closed or the next advance is refused": at most so often, after k that were
-- accepted
unfoldable pub running : ReplicaId → ℕ → ℕ → Script
running c zero k = done (Ran k)
running c (suc most) k = take (advance c) (λ e. if (goes_on e) (running c most (suc k)) (done (stopped k e)))

-- the same with no bound on the advances: after k that were accepted, the answer that a run on ends with and what it leaves,
-- on any stage. "that count is the one found by stepping the definition"
pub data RunsOn {S : Type 0} (w : Stage S) (c : ReplicaId) : ℕ → S → Played S → Type 0 where
  stops : {k : ℕ} (s : S) → goes_on (w.judge (advance c) s) ≡ false
      → RunsOn w c k s (ended (stopped k (w.judge (advance c) s)) (w.perform (advance c) s))
  goes : {k : ℕ} (s : S) {end : Played S} → goes_on (w.judge (advance c) s) ≡ true
      → RunsOn w c (suc k) (w.perform (advance c) s) end → RunsOn w c k s end

-- no run on makes more advances than that: it ends before
abbrev pub most_advances : Numbers → ℕ
most_advances N = 2 * N.phases + 5

abbrev pub run_on : Numbers → ReplicaId → Script
run_on N c = running c (most_advances N) 0

-- ---- the conductor

-- steps one after another, each whatever the one before came to; then on with the count of those that were accepted, and k:
-- "a refused inner step .. is passed over uncounted"
unfoldable pub take_all : List Step → ℕ → (ℕ → Script) → Script
take_all [] k next = next k
take_all (a ∷ steps) k next = take a (λ e. take_all steps (bit (accepted e) + k) next)

-- what such steps leave on a stage, and how many are accepted there
unfoldable pub after_all : {S : Type 0} → Stage S → List Step → S → S
after_all w [] s = s
after_all w (a ∷ steps) s = after_all w steps (w.perform a s)

unfoldable pub accepted_of : {S : Type 0} → Stage S → List Step → S → ℕ
accepted_of w [] s = 0
accepted_of w (a ∷ steps) s = bit (accepted (w.judge a s)) + accepted_of w steps (w.perform a s)

-- its relays and then its other steps, as the rack is at its start. "It answers both counts"
unfoldable pub conducting : List Step → List Step → Script
conducting relays steps = take_all relays 0 (λ k. take_all steps 0 (λ m. done (Conducted m k)))

abbrev pub conduct : Numbers → Script
conduct N = look (λ r. unless (λ why. done (Refused why)) (conduct_refusals N r) (conducting (relay_steps N r) (conduct_steps N r)))

-- a call in a run. There every opening is refused: "only an accepted opening starts another". One that is refused within the
-- limits had a short table.
abbrev pub script : Numbers → Call → Script
script N (Open q) = done (Refused (if (plan_limited q) ShortTable BadPlan))
script N (Single a) = single a
script N (RunOn c) = run_on N c
script N Conduct = conduct N
