-- What the invariant of a rack says of the entries of closed slots.
use Rattle.std.specs.Prelude.{ℕ, ◌+◌, ◌≤◌, ◌<◌, true, false, ◌≢◌, ◌≡◌}
use Rattle.std.proofs.Common.{arith, sym, ◌∙◌}
use Rattle.std.proofs.Math.Decide.{dec_lt, ℕ_discrete}
use Rattle.std.proofs.lemmas.Bool.{false≢true}
use Rattle.safety.specs.Types.{Numbers, Proposals, Tag}
use Rattle.model.specs.Rack.{is, Rack}
use Rattle.model.proofs.Cases.{is_true}
use Rattle.model.proofs.Counting.{some_of_count}
use Rattle.safety.specs.Board.{Decision, one_tag}
use Rattle.safety.proofs.Board.{one_decision}
use Rattle.safety.specs.Invariant.{Closes, empty, full, Invariant, reached}
use Rattle.safety.specs.Entries.{Proposer, majority_proposed}

module _ (N : Numbers) (fits : N.f + N.f + 1 ≤ N.n) (r : Rack) (inv : Invariant N r) where
  -- ---- agreement

  pub same_entry : (c d s : ℕ) → s < (r.at c).closed → s < (r.at d).closed → (r.at c).entry s ≡ (r.at d).entry s
  same_entry c d s h k = go ((inv.replica c).entries s h).closes ((inv.replica d).entries s k).closes
    where
      differs : (p q : ℕ) → Decision N r.sent s p false → Decision N r.sent s q true → ⊥
      differs p q a b = false≢true (one_decision N r.sent inv.grounded fits s p q a b)

      go : {x y : ℕ} → Closes N r.sent s x → Closes N r.sent s y → x ≡ y
      go (empty z p a) (empty y q b) = z ∙ sym y
      go (empty z p a) (full ne x q b) = absurd (differs p q a b)
      go (full ne x q b) (empty z p a) = absurd (differs p q a b)
      go (full ne x p a) (full ne' y q b) = one_tag N r.sent s (omega arith) (omega arith)

  pub proposer : (c s : ℕ) → s < (r.at c).closed → (r.at c).entry s ≢ 0 → Proposer N fits r inv s ((r.at c).entry s)
  proposer c s h ne =
      let most = majority_proposed N fits r inv c s h ne in
      let (d, e) = some_of_count N.n (λ d. is (Tag ((r.at c).entry s)) (r.sent Proposals s 0 d)) (omega arith) in
      let q = sym (is_true _ _ e) in
      record { who = d; came = reached N r inv d s _ q; eligible = (inv.replica d).proposals s _ q }

  -- ---- no order twice

  once_before : (c d s t : ℕ) → s < (r.at c).closed → t < (r.at d).closed → s < t → (r.at c).entry s ≡ (r.at d).entry t → (r.at d).entry t ≢ 0 → ⊥
  once_before c d s t h k l e ne = let x = proposer d t k ne in
      x.eligible.unused s (omega arith) (same_entry x.who c s (let come = x.came in omega arith) h ∙ e)

  pub entry_once : (c d s t : ℕ) → s < (r.at c).closed → t < (r.at d).closed → s ≢ t → (r.at c).entry s ≡ (r.at d).entry t → (r.at c).entry s ≡ 0
  entry_once c d s t h k apart e = go (ℕ_discrete ((r.at c).entry s) 0) (dec_lt s t) (dec_lt t s)
    where
      go : Dec ((r.at c).entry s ≡ 0) → Dec (s < t) → Dec (t < s) → (r.at c).entry s ≡ 0
      go (yes z) a b = z
      go (no ne) (yes l) b = absurd (once_before c d s t h k l e (λ z. ne (e ∙ z)))
      go (no ne) (no l) (yes l') = absurd (once_before d c t s k h l' (sym e) ne)
      go (no ne) (no l) (no l') = absurd (apart (omega arith))
