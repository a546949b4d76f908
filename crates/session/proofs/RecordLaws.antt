-- Record after record: the memories keep their lengths, and turns follow the definitions.
use Prim.Native.Nat.{ℕ, zero, suc, ◌+◌, ◌≤◌, ◌<◌}
use native.Mathlib.Omega.{arith}
use native.Mathlib.Numerals.{add-one}
use native.Mathlib.Nat.{eq-or-lt_of_le}
use mathlib.Core.Bool.{true, false}
use mathlib.Core.List.{List}
use mathlib.Core.Logic.{⊎_elim}
use mathlib.Core.Path.{◌≡◌, sym, ◌∙◌, ap}
use Rattle.model.specs.declared.Numbers.{Numbers}
use Rattle.model.specs.declared.Answer.TheVariants.{Done}
use Rattle.model.proofs.Branches.{if-true, if-false}
use Rattle.tables.specs.Layout.{Tables}
use Rattle.files.specs.declared.Player.{Player}
use Rattle.files.specs.Found.{Said, Ok, Some}
use Rattle.files.specs.Play.{Turn, turn_of, turn, goes_on, turn_on, play, begun}
use Rattle.files.specs.Reported.{fresh}

pub play_none : (most : Numbers) (file : List ℕ) (t : Tables) (strip : List ℕ) {said : Said} {p : Player} → said ≡ Ok (Some Done) → p ≡ fresh
    → turn_of said p t strip ≡ play 0 most file (begun fresh t strip)
unfolding play
play_none most file t strip {p = p} e g = ap (λ (s : Said). turn_of s p t strip) e ∙ ap (λ (p : Player). begun p t strip) g

module _ (most : Numbers) (file : List ℕ) (x : Turn) where
  pub on_more : {y : Turn} → goes_on x.said ≡ true → y ≡ turn most file x.player x.tables x.strip → y ≡ turn_on most file x
  on_more h q = q ∙ sym (if-true _ _ h)

  pub play_more : (i : ℕ) {y z : Turn} → y ≡ play i most file x → z ≡ turn_on most file y → z ≡ play (i + 1) most file x
  unfolding play
  play_more i q h = rw (add-one i) (h ∙ ap (turn_on most file) q)

  -- where reading does not go on, no further turn changes anything
  pub still : (i n : ℕ) → i ≤ n → goes_on (play i most file x).said ≡ false → play n most file x ≡ play i most file x
  unfolding play
  still i zero l h = let e : 0 ≡ i = omega arith in ap (λ (k : ℕ). play k most file x) e
  still i (suc n) l h =
      ⊎_elim (λ (e : i ≡ suc n). ap (λ (k : ℕ). play k most file x) (sym e))
      (λ (g : i < suc n). let e = still i n (omega arith) h in if-false _ _ (ap (λ (y : Turn). goes_on y.said) e ∙ h) ∙ e) (eq-or-lt_of_le l)

  pub play_stopped : {i n : ℕ} {y : Turn} → i ≤ n → goes_on y.said ≡ false → y ≡ play i most file x → y ≡ play n most file x
  play_stopped l h q = q ∙ sym (still _ _ l (ap (λ (y : Turn). goes_on y.said) (sym q) ∙ h))
