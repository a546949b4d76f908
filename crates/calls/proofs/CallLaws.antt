-- Any call is the one that it names.
use Prim.Native.Nat.{ℕ}
use mathlib.Core.List.{List}
use mathlib.Core.Path.{◌≡◌, refl, sym, ◌∙◌, ap}
use Rattle.std.specs.Prelude.{Result, Ok, Err, MatchResult}
use Rattle.model.specs.declared.Refusal.{Refusal}
use Rattle.model.specs.declared.Numbers.{Numbers}
use Rattle.model.specs.declared.Plan.{Plan}
use Rattle.model.specs.declared.ReplicaId.{ReplicaId}
use Rattle.model.specs.declared.Step.{Step}
use Rattle.model.specs.declared.Call.{Call}
use Rattle.model.specs.declared.Call.TheVariants.{Open, Single, RunOn, Conduct}
use Rattle.model.specs.declared.Answer.{Answer}
use Rattle.model.specs.declared.Answer.TheVariants.{Refused}
use Rattle.model.specs.Answers.{answer_in}
use Rattle.model.specs.Scripts.{ended, Played}
use Rattle.tables.specs.Layout.{Tables}
use Rattle.tables.specs.Calls.{open_outcome, same_strip, stepped, ran_on, conducted, open_rack, called}

-- a result is answered by what an accepted call gives, or by its refusal
pub answers : {A : Type 0} {good : A → Answer} {a : Answer} {P : A → Type 0} {Q : Refusal → Type 0} (r : Result A Refusal) → MatchResult r P Q
    → ((x : A) → P x → a ≡ good x) → ((why : Refusal) → Q why → a ≡ Refused why) → a ≡ answer_in good r
answers (Ok x) m ok err = ok x m
answers (Err why) m ok err = err why m

module _ (N : Numbers) (t : Tables) (strip : List ℕ) {call : Call} {a b : Answer} (answered : a ≡ b) {t' : Tables} where
  -- an opening fills the strip
  pub opens : (strip' : List ℕ) (q : Plan) → call ≡ Open q → open_outcome b t' strip' ≡ open_rack q t strip
      → open_outcome a t' strip' ≡ called N call t strip
  unfolding called
  opens strip' q e h = ap (λ (a : Answer). open_outcome a t' strip') answered ∙ h ∙ ap (λ (c : Call). called N c t strip) (sym e)

  -- any other call leaves it alone
  alone : (c : Call) → call ≡ c → {o : Played Tables} → ended b t' ≡ o → same_strip strip o ≡ called N c t strip
      → open_outcome a t' strip ≡ called N call t strip
  alone c e h k = ap (λ (a : Answer). open_outcome a t' strip) answered ∙ ap (same_strip strip) h ∙ k ∙ ap (λ (c : Call). called N c t strip) (sym e)

  pub steps : (s : Step) → call ≡ Single s → ended b t' ≡ stepped N strip s t → open_outcome a t' strip ≡ called N call t strip
  unfolding called
  steps s e h = alone _ e h refl

  pub runs_on : (c : ReplicaId) → call ≡ RunOn c → ended b t' ≡ ran_on N strip c t → open_outcome a t' strip ≡ called N call t strip
  unfolding called
  runs_on c e h = alone _ e h refl

  pub conducts : call ≡ Conduct → ended b t' ≡ conducted N strip t → open_outcome a t' strip ≡ called N call t strip
  unfolding called
  conducts e h = alone _ e h refl
