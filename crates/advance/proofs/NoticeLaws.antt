-- The search for a notice, sender by sender, and what is heeded.
use Prim.Native.Nat.{ℕ, suc, ◌+◌, ◌-◌, ◌≤◌, ◌<◌}
use native.Mathlib.Omega.{arith}
use mathlib.Core.Bool.{true, false}
use mathlib.Core.Path.{◌≡◌, sym, ◌∙◌, ap}
use lib.Dec.{ltb}
use borrow.Author.Tests.{ltb-true}
use Rattle.model.specs.declared.Numbers.{Numbers}
use Rattle.model.specs.declared.Sort.TheVariants.{Notices}
use Rattle.model.specs.declared.Word.{Word}
use Rattle.model.specs.declared.Word.TheVariants.{Unsent}
use Rattle.model.specs.Rack.{is_sent, Replica}
use Rattle.model.specs.Rules.{seen, first_sent, notice}
use Rattle.model.proofs.Branches.{if-true, if-false}
use Rattle.model.proofs.Cases.{and_none}
use Rattle.model.proofs.FirstSent.{first_none, first_alike}
use Rattle.tables.specs.Layout.{Tables, has_row}
use Rattle.tables.specs.View.{in_run, guarded}
use Rattle.tables.specs.Addresses.{guarded_at, notice_within}
use Rattle.tallies.specs.Heard.{heard_by}
use Rattle.advance.specs.Noticed.{noticed}

-- ---- sender by sender

module _ (N : Numbers) (k : Replica) where
  -- no notice of the senders before i was heard
  abbrev pub Past : ℕ → Type 0
  Past i = (left : ℕ) → i + left ≡ N.n → notice N k ≡ first_sent (seen k Notices 0) i left

  pub one_past : {i : ℕ} {w : Word} → Past i → w ≡ seen k Notices 0 i → is_sent w ≡ false → Past (i + 1)
  unfolding first_sent
  one_past {i} past q e left f = let next : suc i ≡ i + 1 = omega arith in
      past (suc left) (omega arith) ∙ if-false _ _ (ap is_sent (sym q) ∙ e) ∙ ap (λ (j : ℕ). first_sent (seen k Notices 0) j left) next

  pub found : {i : ℕ} {w : Word} → i < N.n → Past i → w ≡ seen k Notices 0 i → is_sent w ≡ true → w ≡ notice N k
  unfolding first_sent
  found {i} low past q e = q ∙ sym (past (suc (N.n - suc i)) (omega arith) ∙ if-true _ _ (ap is_sent (sym q) ∙ e))

  pub all_past : {i : ℕ} → i ≤ N.n → N.n ≤ i → Past i → Unsent ≡ notice N k
  unfolding first_sent
  all_past a b past = sym (past 0 (omega arith))

-- ---- of a slot that has no row, and of one that has

module _ (N : Numbers) (c s : ℕ) (t : Tables) where
  pub no_row : has_row N s ≡ false → Unsent ≡ noticed N c s t
  unfolding guarded in_run
  no_row e = sym (first_none _ (λ d. ap is_sent (if-false _ _ (and_none (ltb d N.n) _ (rw e)))) 0 N.n)

  pub in_row : {w : Word} → has_row N s ≡ true → w ≡ notice N (heard_by N c s 0 t) → w ≡ noticed N c s t
  in_row e q = q ∙ first_alike _ _ N.n (λ d l. sym (guarded_at N _ (notice_within N l (ltb-true _ _ e)))) 0 N.n (omega arith)
