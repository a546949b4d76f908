-- An answer's number, from what the call itself promises.
use Prim.Native.Nat.{ℕ}
use mathlib.Core.Path.{◌≡◌, ◌∙◌, ap}
use Rattle.model.specs.declared.Answer.{Answer}
use Rattle.model.specs.Answers.{answer_number}
use Rattle.model.specs.Scripts.{ended, Played}

module _ {a : Answer} {r : ℕ} (number : r ≡ answer_number a) where
  pub numbered : {S : Type 0} {t : S} {o : Played S} → ended a t ≡ o → (r ≡ o.number) × (t ≡ o.state)
  numbered {S} e = (number ∙ ap (λ (o : Played S). o.number) e, ap (λ (o : Played S). o.state) e)
