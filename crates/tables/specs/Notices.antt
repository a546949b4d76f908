-- Laws of the notices as the memories tell them: of a slot that its sender has closed, and of no other; and that nothing else of
-- what was sent reads the records or logs.
use Rattle.std.specs.Prelude.{ℕ, suc, ◌≤◌, ◌<◌, Bool, true, false, List, ◌≢◌, ◌≡◌, refl, ltb, get_or}
use Rattle.std.proofs.Common.{arith, sym, ap, lt-ltb, le-ltb, ltb-true, ltb-false}
use Rattle.tables.specs.Types.{Numbers, Sort, Proposals, States, Votes, Notices, Unsent, Tag}
use Rattle.model.specs.Tests.{if}
use Rattle.model.proofs.Branches.{if-true, if-false}
use Rattle.tables.specs.Layout.{log_cell}
use Rattle.tables.specs.View.{notice_in, closed_in, written_words, sent_words}
use Rattle.tables.specs.Addresses.{log_read}

pub notice_yes : (closed s x : ℕ) → s < closed → notice_in closed s x ≡ Tag x
unfolding notice_in
notice_yes closed s x h = if-true _ _ (lt-ltb s closed (omega arith))

pub notice_no : (closed s x : ℕ) → closed ≤ s → notice_in closed s x ≡ Unsent
unfolding notice_in
notice_no closed s x h = if-false _ _ (le-ltb s closed (omega arith))

-- one more slot is closed: nothing else is said of another slot
pub notice_other : (closed s x : ℕ) → s ≢ closed → notice_in (suc closed) s x ≡ notice_in closed s x
unfolding notice_in
notice_other closed s x ne = ap (λ (b : Bool). if b (Tag x) Unsent) (go (ltb s closed) refl)
  where
    go : (b : Bool) → ltb s closed ≡ b → ltb s (suc closed) ≡ b
    go true e = let h = ltb-true s closed e in lt-ltb s (suc closed) (omega arith)
    go false e = let h = ltb-false s closed e in le-ltb s (suc closed) (omega arith)

module _ (N : Numbers) (words orders ballots : List ℕ) where
  -- the cells that a notice is read from
  pub notice_read : (s p d : ℕ) → s < N.slots
      → sent_words N words orders ballots Notices s p d ≡ notice_in (closed_in words d) s (get_or orders (log_cell N d s) 0)
  notice_read s p d h = ap (notice_in (closed_in words d) s) (sym (log_read N orders d s h))

  -- all else has cells of its own
  pub others_written : (so : Sort) → so ≢ Notices → (s p d : ℕ) → sent_words N words orders ballots so s p d ≡ written_words N orders ballots so s p d
  others_written Proposals ne s p d = refl
  others_written States ne s p d = refl
  others_written Votes ne s p d = refl
  others_written Notices ne s p d = absurd (ne refl)
