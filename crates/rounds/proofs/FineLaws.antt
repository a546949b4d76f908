-- What the steps that the conductor makes leave: memories on which no further one meets refusals 3 and 2, and the same replicas
-- running.
use Prim.Native.Nat.{ℕ, ◌<◌}
use mathlib.Core.Bool.{Bool, true, false}
use mathlib.Core.List.{List}
use mathlib.Core.Path.{◌≡◌, refl, sym, ◌∙◌, subst}
use Rattle.model.specs.declared.Numbers.{Numbers}
use Rattle.model.specs.declared.Act.{Act}
use Rattle.model.specs.declared.Act.TheVariants.{Advance}
use Rattle.model.specs.declared.Step.{Step}
use Rattle.model.specs.Rules.{is_crash}
use Rattle.model.specs.Conductor.{for_each, does, hear, hear_steps, round_steps}
use Rattle.tables.specs.Layout.{Tables, has_bit}
use Rattle.promises.specs.Still.{StillFine, Calm, calm_one, calm_then, calm_each}
use Rattle.promises.proofs.Still.{still_after}
use Rattle.tables.specs.Sound.{Sound}
use Rattle.rounds.specs.Made.{Made, Listening, Ready}

-- ---- steps without a crash

pub calm_does : (n : ℕ) (ok : ℕ → Bool) (a : Act) → is_crash a ≡ false → Calm (for_each n ok (does a))
calm_does n ok a e = calm_each n ok _ (λ c. calm_one _ e)

pub calm_hears : (k : ℕ) (ok : ℕ → Bool) (s so p c : ℕ) → Calm (for_each k ok (λ d. does (hear so s p d) c))
calm_hears k ok s so p c = calm_each k ok _ (λ d. calm_one _ refl)

module _ (n : ℕ) (lit : ℕ → Bool) (s so p : ℕ) where
  pub calm_all_hear : (k : ℕ) → Calm (for_each k lit (hear_steps n lit s so p))
  calm_all_hear k = calm_each k lit _ (λ c. calm_hears n _ s so p c)

  pub calm_round : Calm (round_steps n lit s so p)
  calm_round = calm_then _ _ (calm_all_hear n) (calm_does n lit Advance refl)

-- ---- after them

module _ {N : Numbers} {strip : List ℕ} {steps : List Step} {t u : Tables} {k : ℕ} (calm : Calm steps) (m : Made N strip steps t u k) where
  still : Sound N t → StillFine N t u
  still fine = subst (StillFine N t) (sym m.left) (still_after N strip steps t calm fine)

  pub listening_on : {c : ℕ} → Listening N c t → Listening N c u
  listening_on {c} l = let h = still l.fine in record { fine = h.fine; who = l.who; running = h.alike c l.who ∙ l.running }

  pub ready_on : {mask : ℕ} → Ready N mask t → Ready N mask u
  ready_on l = let h = still l.fine in record { fine = h.fine; running = λ c there on. h.alike c there ∙ l.running c there on }

-- one of the mask
pub listens : {N : Numbers} {mask c : ℕ} {t : Tables} → Ready N mask t → c < N.n → has_bit mask c ≡ true → Listening N c t
listens l there on = record { fine = l.fine; who = there; running = l.running _ there on }
