-- What the search for the first word that was sent finds: the lowest sender's, if any was; and what it depends on.
use Prim.Native.Nat.{ℕ, zero, suc, ◌+◌, ◌≤◌, ◌<◌}
use native.Mathlib.Omega.{arith}
use native.Mathlib.Decide.{ℕ_discrete}
use mathlib.Core.Bool.{true, false}
use mathlib.Core.Path.{◌≡◌, refl, sym, ◌∙◌, ap, ap₂}
use Rattle.model.specs.Types.{Word, Unsent}
use Rattle.model.specs.Tests.{if}
use Rattle.model.specs.Rack.{is_sent}
use Rattle.model.specs.Rules.{first_sent}
use Rattle.model.proofs.Branches.{if-false}
use Rattle.model.proofs.Cases.{clash, if-ind}

module _ (said : ℕ → Word) where
  -- a word of the senders from d on, and none of a lower one was sent
  pub record Lowest (d left : ℕ) (w : Word) : Type 0 where
    pub sender : ℕ
    pub from : d ≤ sender
    pub below : sender < d + left
    pub says : w ≡ said sender
    pub lowest : (e : ℕ) → d ≤ e → e < sender → is_sent (said e) ≡ false

  pub first_found : (d left : ℕ) → is_sent (first_sent said d left) ≡ true → Lowest d left (first_sent said d left)
  unfolding first_sent
  first_found d zero = λ h. clash h
  first_found d (suc left) = if-ind (λ (w : Word). is_sent w ≡ true → Lowest d (suc left) w) (is_sent (said d))
      (λ _ h. record { sender = d; from = omega arith; below = omega arith; says = refl; lowest = λ e l u. absurd (omega arith) })
      (λ none h. let x = first_found (suc d) left h in record {
        sender = x.sender;
        from = (let l = x.from in omega arith);
        below = (let l = x.below in omega arith);
        says = x.says;
        lowest = λ e l u. lower e none (ℕ_discrete e d) l (x.lowest e) u;
      })
    where
      lower : (e : ℕ) {s : ℕ} → is_sent (said d) ≡ false → Dec (e ≡ d) → d ≤ e → (suc d ≤ e → e < s → is_sent (said e) ≡ false) → e < s
          → is_sent (said e) ≡ false
      lower e none (yes q) l below u = ap (λ (e : ℕ). is_sent (said e)) q ∙ none
      lower e none (no ne) l below u = below (omega arith) u

  -- where one was sent, one is found, and where none was, none
  pub first_there : (d left e : ℕ) → d ≤ e → e < d + left → is_sent (said e) ≡ true → is_sent (first_sent said d left) ≡ true
  unfolding first_sent
  first_there d zero e l u h = absurd (omega arith)
  first_there d (suc left) e l u h = if-ind (λ (w : Word). is_sent w ≡ true) (is_sent (said d)) (λ here. here)
      (λ none. go none (ℕ_discrete e d) (first_there (suc d) left e))
    where
      go : is_sent (said d) ≡ false → Dec (e ≡ d)
          → (suc d ≤ e → e < suc d + left → is_sent (said e) ≡ true → is_sent (first_sent said (suc d) left) ≡ true)
          → is_sent (first_sent said (suc d) left) ≡ true
      go none (yes q) below = clash (sym none ∙ ap (λ (e : ℕ). is_sent (said e)) (sym q) ∙ h)
      go none (no ne) below = below (omega arith) (omega arith) h

  pub first_none : ((d : ℕ) → is_sent (said d) ≡ false) → (d left : ℕ) → first_sent said d left ≡ Unsent
  unfolding first_sent
  first_none none d zero = refl
  first_none none d (suc left) = if-false _ _ (none d) ∙ first_none none (suc d) left

-- where all said the same
pub first_alike : (said said' : ℕ → Word) (end : ℕ) → ((d : ℕ) → d < end → said d ≡ said' d)
    → (d left : ℕ) → d + left ≤ end → first_sent said d left ≡ first_sent said' d left
unfolding first_sent
first_alike said said' end same d zero h = refl
first_alike said said' end same d (suc left) h =
    ap₂ (λ (w u : Word). if (is_sent w) w u) (same d (omega arith)) (first_alike said said' end same (suc d) left (omega arith))
