-- A step that was judged, and stored where it is accepted, is the definition's.
use Prim.Native.Nat.{ℕ}
use mathlib.Core.Bool.{Bool, true, false}
use mathlib.Core.List.{List}
use mathlib.Core.Path.{◌≡◌, refl, sym, ◌∙◌, ap, ap₂, subst}
use Rattle.std.specs.Prelude.{Result}
use Rattle.std.specs.Result.{IsErrAnd}
use Rattle.model.specs.declared.Numbers.{Numbers}
use Rattle.model.specs.declared.Refusal.{Refusal}
use Rattle.model.specs.Answers.{answer_in}
use Rattle.model.specs.declared.Effect.{Effect}
use Rattle.model.specs.declared.Effect.TheVariants.{Refuse, Hold, Send, Close, Seek, Receive, Halt}
use Rattle.model.specs.declared.Act.{Act}
use Rattle.model.specs.declared.Step.{Step}
use Rattle.model.specs.declared.Answer.{Answer}
use Rattle.model.specs.declared.Answer.TheVariants.{Done}
use Rattle.model.specs.Scripts.{Played, play, accepted, answered, ended}
use Rattle.model.proofs.Cases.{clash}
use Rattle.tables.specs.Layout.{Tables}
use Rattle.tables.specs.Write.{write, unstored}
use Rattle.tables.specs.Calls.{judge, performed, stepped}
use Rattle.effects.specs.Doable.{Doable}
use Rattle.acts.proofs.DoableLaws.{judged_doable}
use Rattle.acts.proofs.GateLaws.{turned_away}

-- an effect that is no refusal is accepted
pub not_refused : (e : Effect) → ((why : Refusal) → e ≡ Refuse why → ⊥) → accepted e ≡ true
not_refused = elim [
  | Refuse why ↦ λ none. absurd (none why refl)
  | Hold x ↦ λ _. refl
  | Send so p w ↦ λ _. refl
  | Close x own ↦ λ _. refl
  | Seek ↦ λ _. refl
  | Receive so s p d w ↦ λ _. refl
  | Halt ↦ λ _. refl
]

-- an accepted effect answers that it is done
pub all_done : (e : Effect) → accepted e ≡ true → Done ≡ answered Done e
all_done = elim [
  | Refuse why ↦ λ h. clash h
  | Hold x ↦ λ h. refl
  | Send so p w ↦ λ h. refl
  | Close x own ↦ λ h. refl
  | Seek ↦ λ h. refl
  | Receive so s p d w ↦ λ h. refl
  | Halt ↦ λ h. refl
]

module _ (N : Numbers) (strip : List ℕ) (a : Step) (t : Tables) {e : Effect} (judged : e ≡ judge N strip a t) where
  -- what was judged can be stored
  pub doable : Doable N a.who.0 e t
  doable = subst (λ (e : Effect). Doable N a.who.0 e t) (sym judged) (judged_doable N t strip a)

  -- and was
  pub performs : {t' : Tables} → t' ≡ write N a.who.0 e t → t' ≡ performed N strip a t
  performs h = h ∙ ap (λ (e : Effect). write N a.who.0 e t) judged

  -- and is answered
  pub takes : {t' : Tables} {r : Answer} → t' ≡ performed N strip a t → r ≡ answered Done e → ended r t' ≡ stepped N strip a t
  unfolding stepped play
  takes h k = ap₂ ended (k ∙ ap (answered Done) judged) h

  module _ {b : Bool} (asked : b ≡ accepted e) where
    -- it is refused: nothing is stored
    pub stays : {r : Answer} → b ≡ false → r ≡ answered Done e → ended r t ≡ stepped N strip a t
    stays h q = takes (performs (unstored N a.who.0 t e (sym asked ∙ h))) q

    -- it is accepted: what was judged is stored
    pub stores : {t' : Tables} → b ≡ true → t' ≡ write N a.who.0 e t → ended Done t' ≡ stepped N strip a t
    stores h q = takes (performs q) (all_done e (sym asked ∙ h))

-- a step that the code turns away
pub stops : (N : Numbers) (strip : List ℕ) (a : Step) (t : Tables) {T : Type 0} (good : T → Answer) (r : Result T Refusal) {why : Refusal}
    → IsErrAnd r (λ y. y ≡ why) → Refuse why ≡ judge N strip a t → ended (answer_in good r) t ≡ stepped N strip a t
stops N strip a t good r away judged = stays N strip a t judged refl refl (ap (answer_in good) (turned_away away))

-- the step that the code has matched
pub taken : (N : Numbers) (strip : List ℕ) (t : Tables) (a : Step) {x : Act} {p : Played Tables} → a.act ≡ x
    → p ≡ stepped N strip (record { who = a.who; act = x }) t → p ≡ stepped N strip a t
taken N strip t a e q = q ∙ ap (λ (x : Act). stepped N strip (record { who = a.who; act = x }) t) (sym e)
