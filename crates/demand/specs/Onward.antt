-- Document 02, "some relay, begin, hear or advance .. is accepted, unless an advance is refused for used-up phases", by what the calls on
-- the memories answer: number 0, or 15.
use Rattle.std.specs.Prelude.{ℕ, ◌≤◌, ◌<◌, true, false, List, ◌⊎◌, ◌≢◌, ◌≡◌, refl}
use Rattle.std.proofs.Math.Path.{ap}
use Rattle.tables.specs.Types.{Numbers, ReplicaId, Idle, Effect, Refuse, Hold, Send, Close, Seek, Receive, Halt, Step, Done, PhasesUsedUp}
use Rattle.model.specs.Tests.{count}
use Rattle.model.specs.Answers.{answer_number}
use Rattle.model.specs.Scripts.{play, accepted, answered, advance}
use Rattle.model.proofs.Cases.{clash}
use Rattle.safety.specs.Claims.{moves, LongStrip}
use Rattle.tables.specs.Layout.{Tables}
use Rattle.tables.specs.View.{view}
use Rattle.tables.specs.Calls.{judge, stepped}

told : (e : Effect) → accepted e ≡ true → answer_number (answered Done e) ≡ 0
told = elim [
  | Refuse why ↦ λ h. clash h
  | Hold x ↦ λ h. refl
  | Send so p w ↦ λ h. refl
  | Close x own ↦ λ h. refl
  | Seek ↦ λ h. refl
  | Receive so s p d w ↦ λ h. refl
  | Halt ↦ λ h. refl
]

module _ (N : Numbers) (strip : List ℕ) (a : Step) (t : Tables) where
  pub moves_answered : accepted (judge N strip a t) ≡ true → (stepped N strip a t).number ≡ 0
  unfolding stepped play
  moves_answered h = told (judge N strip a t) h

  pub used_up_answered : judge N strip a t ≡ Refuse PhasesUsedUp → (stepped N strip a t).number ≡ 15
  unfolding stepped play
  used_up_answered h = ap (λ (e : Effect). answer_number (answered Done e)) h

module _ (N : Numbers) (t : Tables) where
  -- the call of such a step answers 0, whatever long strip it is lent
  pub record CallMoves : Type 0 where
    pub step : Step
    pub counts : moves step.act ≡ true
    pub accepts : (strip : List ℕ) → LongStrip N strip → (stepped N strip step t).number ≡ 0

  -- the call of an advance answers 15
  pub record CallUsedUp : Type 0 where
    pub who : ReplicaId
    pub refuses : (strip : List ℕ) → LongStrip N strip → (stepped N strip (advance who) t).number ≡ 15

  abbrev pub CallsOnward : Type 0
  CallsOnward = count N.n (λ c. ((view N t).at c).crashed) ≤ N.f
      → (c : ℕ) → c < N.n → ((view N t).at c).crashed ≡ false → ((view N t).at c).round ≢ Idle → CallMoves ⊎ CallUsedUp
