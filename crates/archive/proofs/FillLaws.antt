-- A list that is written over from its last cell back, and one from its first on; what the loops over the bytes of a plane and
-- over entries can keep.
use Prim.Native.Nat.{ℕ, zero, suc, ◌+◌, ◌-◌, ◌<◌, ◌≤◌}
use mathlib.Core.Path.{◌≡◌, refl, sym, ◌∙◌}
use mathlib.Core.List.{List, ◌++◌, append_assoc, map}
use native.Mathlib.Numerals.{add-one}
use native.Mathlib.Omega.{arith}
use lib.ListN.{length, get_or, set, take, drop, length-set, take-append-drop, drop_of_length-le}
use lib.Seq.{length-take-le, take-suc, drop-cons, set_at}
use Rattle.std.proofs.lemmas.Grind.{drop-set_at}
use Rattle.std.proofs.lemmas.List.{take_more_set}
use Rattle.shelf.specs.Planes.{upto}
use Rattle.shelf.specs.Bytes.{map_grows}
use Rattle.shelf.specs.Calls.{over}

-- one cell more, before those that stand
pub one_before : (cells now : List ℕ) (p : ℕ) {v : ℕ} → length now ≡ length cells → p < length cells → drop (p + 1) now ≡ drop (p + 1) cells
    → v ≡ get_or cells p 0 → drop p (set now p v) ≡ drop p cells
one_before cells now p long inside behind is =
    let here : p < length now = omega arith in
    rw (drop-set_at now p p _ refl here, drop-cons cells p 0 inside, behind, is, add-one p)

-- one cell more, behind those that stand
pub one_behind : (cell : ℕ → ℕ) (now : List ℕ) (p : ℕ) {v : ℕ} → p < length now → take p now ≡ map cell (upto p) → v ≡ cell p
    → take (p + 1) (set now p v) ≡ map cell (upto (p + 1))
one_behind cell now p inside before is = take_more_set now p _ inside ∙ rw (before, is, add-one p, (map_grows cell).more)

-- A memory whose front is filled from its last cell back.
-- of so many cells, those from `left` on are filled; before and behind them is what there was
pub record Filling (cells : List ℕ) (count : ℕ) (was : List ℕ) (left : ℕ) (now : List ℕ) : Type 0 where
  pub so_many : left ≤ count
  pub same_length : length now ≡ length was
  pub so_far : now ≡ take left was ++ (drop left cells ++ drop count was)

module _ (cells was : List ℕ) {count : ℕ} (many : length cells ≡ count) where
  pub none_filled : Filling cells count was count was
  none_filled = record {
    so_many = omega arith;
    same_length = refl;
    so_far = rw (drop_of_length-le cells {i = count} (omega arith)) (sym (take-append-drop count was));
  }

  module _ (room : count ≤ length was) where
    one_less : (left : ℕ) {now : List ℕ} {v : ℕ} → Filling cells count was (suc left) now → v ≡ get_or cells left 0
        → Filling cells count was left (set now left v)
    one_less left f e = let inside = f.so_many in record {
      so_many = omega arith;
      same_length = simp length-set f.same_length;
      so_far =
          rw (f.so_far, take-suc was left 0 (omega arith), append_assoc, drop-cons cells left 0 (omega arith), e)
          (set_at (take left was) _ _ _ left (length-take-le left was (omega arith)));
    }

    pub one_filled : (left : ℕ) {now : List ℕ} {v : ℕ} → Filling cells count was left now → 0 < left → v ≡ get_or cells (left - 1) 0
        → Filling cells count was (left - 1) (set now (left - 1) v)
    one_filled zero f more e = absurd (omega arith)
    one_filled (suc left) f more e = let back : suc left - 1 ≡ left = omega arith in rw back (one_less left f (rw back at e))

  pub all_filled : {left : ℕ} {now : List ℕ} → Filling cells count was left now → left ≤ 0 → now ≡ over cells was
  all_filled {left} f none = let e : left ≡ 0 = omega arith in rw many (rw e at f.so_far)
