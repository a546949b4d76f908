-- A line for each replica: entry by entry, and bench by bench.
use Prim.Native.Nat.{ℕ, zero, suc, ◌+◌, ◌<◌, ◌≤◌}
use native.Mathlib.Omega.{arith}
use native.Mathlib.Numerals.{add-one}
use mathlib.Core.Bool.{Bool, true, false, not}
use mathlib.Core.List.{List, ◌++◌}
use mathlib.Core.Path.{◌≡◌, refl, sym, ◌∙◌, ap, ap₂}
use mathlib.Core.Logic.{◌≢◌}
use lib.Dec.{eqb}
use lib.ListN.{get_or}
use borrow.Author.Tests.{eq-eqb, ne_eqb, lt-ltb, ltb-true, ltb-false}
use Rattle.model.specs.declared.Numbers.{Numbers}
use Rattle.model.proofs.Branches.{told, if-true, if-false}
use Rattle.model.specs.Rack.{Replica, fresh_replica}
use Rattle.tables.specs.declared.Record.{Record}
use Rattle.tables.specs.Layout.{Tables, record_at, has_row, log_cell}
use Rattle.tables.specs.Addresses.{log_read, log_past}
use Rattle.tables.specs.View.{only, log_in, replica_at, view}
use Rattle.files.specs.Text.{text, decimal}
use Rattle.files.specs.Page.{Page, print}
use Rattle.files.specs.Lines.{entry_text, entries_text, light, bench_line, bench_lines, bench_in, benches_in}
use Rattle.report.proofs.PageLaws.{then, same_text, nothing}

-- an entry: of a slot that has a row, and of one that has none
module _ (N : Numbers) (s : ℕ) {b : Bool} (e : b ≡ has_row N s) where
  pub row_there : b ≡ true → s < N.slots
  row_there h = ltb-true s N.slots (told e h)

  pub entry_there : (orders : List ℕ) (c : ℕ) {i : ℕ} → b ≡ true → i ≡ log_cell N c s → get_or orders i 0 ≡ log_in N orders c s
  entry_there orders c h g = ap (λ (i : ℕ). get_or orders i 0) g ∙ log_read N orders c s (row_there h)

  pub entry_missing : (orders : List ℕ) (c : ℕ) → b ≡ false → 0 ≡ log_in N orders c s
  entry_missing orders c h = log_past N orders c s (ltb-false s N.slots (told e h))

-- the branch that was taken says which text it is: a replica's light, and an entry
module _ (p : Page) {q : Page} where
  pub lit : (x : ℕ) → x ≡ 0 → q ≡ print p (text " lit ") → q ≡ print p (light (not (eqb x 0)))
  lit x e h = same_text p _ _ (sym (if-false _ _ (ap not (eq-eqb x 0 e)))) h

  pub dark : (x : ℕ) → x ≢ 0 → q ≡ print p (text " dark ") → q ≡ print p (light (not (eqb x 0)))
  dark x e h = same_text p _ _ (sym (if-true _ _ (ap not (ne_eqb x 0 e)))) h

  pub empty : (x : ℕ) → x ≡ 0 → q ≡ print p (text " -") → q ≡ print p (entry_text x)
  empty x e h = same_text p _ _ (sym (if-true _ _ (eq-eqb x 0 e))) h

  pub order : (x : ℕ) → x ≢ 0 → q ≡ print p (text " " ++ decimal x) → q ≡ print p (entry_text x)
  order x e h = same_text p _ _ (sym (if-false _ _ (ne_eqb x 0 e))) h

-- entry by entry
pub no_entry : (p : Page) (entry : ℕ → ℕ) → p ≡ print p (entries_text 0 entry)
unfolding entries_text
no_entry p entry = nothing p

pub entry_more : (p : Page) {q r : Page} (entry : ℕ → ℕ) (s x : ℕ) → q ≡ print p (entries_text s entry) → x ≡ entry s → r ≡ print q (entry_text x)
    → r ≡ print p (entries_text (s + 1) entry)
unfolding entries_text
entry_more p {q} {r} entry s x e h g =
    then p (entries_text s entry) (entry_text (entry s)) e (same_text q _ _ (ap entry_text h) g)
    ∙ ap (λ (k : ℕ). print p (entries_text k entry)) (sym (add-one s))

module _ (p : Page) (N : Numbers) (words orders : List ℕ) where
  -- the pieces of a line, by the replica's record
  pub bench : {a b d e f g : Page} (c : ℕ) {k : Record} → k ≡ record_at words c → a ≡ print p (text "bench ") → b ≡ print a (decimal c)
      → d ≡ print b (light (not (eqb k.crashed 0))) → e ≡ print d (decimal k.slot) → f ≡ print e (entries_text k.slot (log_in N orders c))
      → g ≡ print f (text "\n") → g ≡ print p (bench_in N words orders c)
  bench {a} {b} {d} {e} c {k} h ha hb hd he hf hg =
      same_text p _ _ (ap (λ (k : Record). bench_line c (not (eqb k.crashed 0)) k.slot (log_in N orders c)) h)
      (then p _ _ ha (then a _ _ hb (then b _ _ hd (then d _ _ he (then e _ _ hf hg)))))

  -- bench by bench
  pub no_bench : p ≡ print p (benches_in N words orders 0)
  unfolding benches_in
  no_bench = nothing p

  pub bench_more : {q r : Page} (c : ℕ) → q ≡ print p (benches_in N words orders c) → r ≡ print q (bench_in N words orders c)
      → r ≡ print p (benches_in N words orders (c + 1))
  unfolding benches_in
  bench_more c e g = then p (benches_in N words orders c) _ e g ∙ ap (λ (k : ℕ). print p (benches_in N words orders k)) (sym (add-one c))

-- the same lines by the rack that the tables stand for
pub by_view : (N : Numbers) (t : Tables) (c : ℕ) → c ≤ N.n → benches_in N t.words t.orders c ≡ bench_lines c (view N t).at
unfolding benches_in bench_lines only
by_view N t zero h = refl
by_view N t (suc c) h =
    ap₂ ◌++◌ (by_view N t c (omega arith))
    (ap (λ (r : Replica). bench_line c r.crashed r.closed r.entry) (sym (if-true (replica_at N t c) fresh_replica (lt-ltb c N.n (omega arith)))))
