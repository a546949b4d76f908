-- Printing goes on where it stopped.
use Prim.Native.Nat.{ℕ, ◌+◌, ◌<◌, ◌≤◌}
use native.Mathlib.Numerals.{add-one}
use native.Mathlib.Omega.{arith}
use mathlib.Core.List.{List, [], ◌∷◌, ◌++◌}
use mathlib.Core.Path.{◌≡◌, refl, sym, ◌∙◌, ap, subst}
use lib.Dec.{ltb}
use lib.ListN.{length, get_or, take, set as store_at, length-set}
use lib.Seq.{take-suc, length-take-le}
use borrow.Author.Tests.{lt-ltb, le-ltb, ltb-true}
use Rattle.model.proofs.Branches.{if-true, if-false}
use Rattle.model.proofs.Cases.{if-ind}
use Rattle.files.specs.Page.{Page, page, put_byte, print}

-- a byte that was put, and one that the buffer has no room for
pub fits : (l : List ℕ) (at b : ℕ) → at < length l → page (store_at l at b) (at + 1) ≡ put_byte (page l at) b
unfolding put_byte
fits l at b h = sym (if-true _ _ (lt-ltb at (length l) h))

pub full : (l : List ℕ) (at b : ℕ) → length l ≤ at → page l at ≡ put_byte (page l at) b
unfolding put_byte
full l at b h = sym (if-false _ _ (le-ltb at (length l) h))

-- two texts in one
print_on : (p : Page) (v w : List ℕ) → print p (v ++ w) ≡ print (print p v) w
unfolding print
print_on p [] w = refl
print_on p (b ∷ v) w = print_on (put_byte p b) v w

-- one text, and then another
pub then : (p : Page) {q r : Page} (v w : List ℕ) → q ≡ print p v → r ≡ print q w → r ≡ print p (v ++ w)
then p v w e h = h ∙ ap (λ (q : Page). print q w) e ∙ sym (print_on p v w)

-- a text of one byte, and of none
pub one_byte : (p : Page) {q : Page} (b : ℕ) → q ≡ put_byte p b → q ≡ print p (b ∷ [])
unfolding print
one_byte p b e = e

pub nothing : (p : Page) → p ≡ print p []
unfolding print
nothing p = refl

-- one more byte of a text
pub more : (p : Page) {q r : Page} (w : List ℕ) (k : ℕ) → k < length w → q ≡ print p (take k w) → r ≡ put_byte q (get_or w k 0) → r ≡ print p (take (k + 1) w)
more p w k h e g =
    then p (take k w) _ e (one_byte _ _ g) ∙ ap (λ (v : List ℕ). print p v) (sym (take-suc w k 0 h)) ∙ ap (λ (j : ℕ). print p (take j w)) (sym (add-one k))

-- a text that is another's
pub same_text : (p : Page) {q : Page} (v w : List ℕ) → v ≡ w → q ≡ print p v → q ≡ print p w
same_text p v w e h = h ∙ ap (λ (v : List ℕ). print p v) e

-- ---- what is written stands in the buffer

-- byte by byte
put_within : (p : Page) (b : ℕ) → p.at ≤ length p.bytes → let q = put_byte p b in q.at ≤ length q.bytes
unfolding put_byte
put_within p b h = if-ind (λ (q : Page). q.at ≤ length q.bytes) (ltb p.at (length p.bytes))
    (λ e. let l = ltb-true p.at (length p.bytes) e in let g = length-set p.bytes p.at b in omega arith) (λ e. h)

pub within : (p : Page) (w : List ℕ) → p.at ≤ length p.bytes → let q = print p w in q.at ≤ length q.bytes
unfolding print
within p [] h = h
within p (b ∷ w) h = within (put_byte p b) w (put_within p b h)

-- so many bytes, counted
pub counted : (l : List ℕ) {m : List ℕ} {r : ℕ} (w : List ℕ) → page m r ≡ print (page l 0) w → (r ≤ length m) × (r ≡ length (take r m))
counted l {m} {r} w e =
    let h : r ≤ length m = subst (λ (q : Page). q.at ≤ length q.bytes) (sym e) (within (page l 0) w (omega arith)) in
    (h, sym (length-take-le r m h))
