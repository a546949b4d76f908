-- The theorem that specs/Claims states, of the history.
use Rattle.std.specs.Prelude.{ℕ, ◌+◌, ◌-◌, ◌*◌, ◌≤◌, Bool, true, not, List, ◌≡◌}
use Rattle.std.proofs.Common.{arith, sym, ◌∙◌, ap, ne_eqb}
use Rattle.std.proofs.lemmas.Bool.{not-true}
use Rattle.tables.specs.Types.{Numbers, Step}
use Rattle.model.specs.Tests.{count}
use Rattle.model.specs.Rack.{Rack}
use Rattle.model.specs.Conductor.{is_running, running_count, common_slot, common_tag}
use Rattle.model.specs.Conductor.{lacks, relay_steps, conduct_steps}
use Rattle.model.specs.Scripts.{after_all}
use Rattle.model.specs.History.{History}
use Rattle.model.proofs.Cases.{clash, and_true, and_both}
use Rattle.model.proofs.Counting.{count_mono}
use Rattle.conductor.specs.Turns.{Claim, Those, here, Takes}
use Rattle.conductor.specs.Rounds.{other}
use Rattle.conductor.specs.Level.{Level}

module _ (N : Numbers) (strip : List ℕ) (h : History) (level : Level N h.rack strip) where
  open N use {n}

  abbrev pub r : Rack
  r = h.rack

  abbrev running : ℕ → Bool
  running = is_running N r

  abbrev pub L : ℕ
  L = running_count N r

  abbrev s : ℕ
  s = common_slot N r

  abbrev pub x : ℕ
  x = common_tag N r

  -- after them
  abbrev h₁ : History
  h₁ = after_all (here N strip) (relay_steps N r) h

  -- ---- the rounds

  abbrev All_take : Claim → List Step → ℕ → History → Type 0
  All_take = Takes N strip (Those running n)

  -- a round's hears and its advances
  abbrev round_count : ℕ
  round_count = L * (L - 1) + L * 1

  -- ---- what they leave

  -- in the end
  abbrev h₂ : History
  h₂ = after_all (here N strip) (conduct_steps N r) h₁

  -- a round is L² steps
  pub square : L * (L - 1 + 1) ≡ L * L
  square = let fits = level.fits in ap (λ (m : ℕ). L * m) (omega (arith, level.enough))

  -- none is relayed to one that holds the tag
  pub relays_to_others : (c : ℕ) → (r.at c).held x ≡ true → count n (lacks N r x) ≤ count n (other N r c)
  relays_to_others c has = count_mono n (lacks N r x) (other N r c) (λ d e. let (on, without) = and_true (running d) _ e in
      and_both (running d) _ on (ap not (ne_eqb d c (λ q. clash (sym (not-true _ without) ∙ ap (λ (c : ℕ). (r.at c).held x) q ∙ has)))))
