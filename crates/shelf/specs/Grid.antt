-- A table of rows and columns, listed row by row: its length, the places of its cells, and that listing it column by column lists
-- the same cells.
use Prim.Native.Nat.{ℕ, zero, suc, ◌+◌, ◌*◌, ◌/◌, ◌%◌, ◌<◌}
use Rattle.std.specs.Prelude.{◌≡◌, get_or}
use Rattle.std.proofs.Math.Path.{refl, sym}
use Rattle.std.proofs.Common.{◌∙◌, zero-mul, add_comm, le_of_suc-le-suc, div-add-mod', mod-lt, div-lt_iff_lt-mul, arith, length-append, get_or-append-add}
use mathlib.Core.List.{List, [], ◌∷◌, ◌++◌, map, flat_map}
use mathlib.Core.List.Permᴰ
use mathlib.Core.List.{Permᴰ}
use Rattle.std.proofs.Math.Nat.{zero-add, suc-mul}
use Rattle.std.proofs.Math.Arith.{digits_lt, digits_div, digits_mod}
use Rattle.std.proofs.Math.ListN.{length, length-map, get_or-append}

pub getD_mapped : {B : Type 0} (g : B → ℕ) (l : List B) (j : ℕ) (z : B) → j < length l → get_or (map g l) j 0 ≡ g (get_or l j z)
getD_mapped g [] j z h = absurd (omega arith)
getD_mapped g (b ∷ l) zero z h = refl
getD_mapped g (b ∷ l) (suc j) z h = getD_mapped g l j z (le_of_suc-le-suc h)

module _ {A B : Type 0} (f : A → B → ℕ) where
  -- row after row
  abbrev pub listed : List A → List B → List ℕ
  listed rows columns = flat_map (λ a. map (f a) columns) rows

  pub length_listed : (rows : List A) (columns : List B) → length (listed rows columns) ≡ length rows * length columns
  unfolding flat_map
  length_listed [] columns = sym (zero-mul (length columns))
  length_listed (a ∷ rows) columns =
      rw (length-append, length-map, suc-mul (length rows) (length columns), length_listed rows columns) (add_comm (length columns) _)

  -- the cell of row i and column j
  pub getD_listed : (rows : List A) (columns : List B) (i j : ℕ) (y : A) (z : B) → i < length rows → j < length columns
      → get_or (listed rows columns) (i * length columns + j) 0 ≡ f (get_or rows i y) (get_or columns j z)
  unfolding flat_map
  getD_listed [] columns i j y z hi hj = absurd (omega arith)
  getD_listed (a ∷ rows) columns zero j y z hi hj =
      rw (zero-mul (length columns), zero-add j)
      (get_or-append (map (f a) columns) (listed rows columns) 0 j (rw (length-map columns (f a)) hj) ∙ getD_mapped (f a) columns j z hj)
  getD_listed (a ∷ rows) columns (suc i) j y z hi hj =
      let row = map (f a) columns in
      let there : suc i * length columns + j ≡ length row + (i * length columns + j)
      = rw (length-map columns (f a), suc-mul i (length columns)) (omega arith) in
      rw there (get_or-append-add row (listed rows columns) (i * length columns + j) 0 ∙ getD_listed rows columns i j y z (le_of_suc-le-suc hi) hj)

-- a list moved over another
across : (xs ys zs : List ℕ) → Permᴰ (xs ++ (ys ++ zs)) (ys ++ (xs ++ zs))
across xs [] zs = Permᴰ.refl (xs ++ zs)
across xs (y ∷ ys) zs = Permᴰ.trans (Permᴰ.middle y xs (ys ++ zs)) (Permᴰ.cons refl (across xs ys zs))

module _ {B : Type 0} where
  no_rows : (columns : List B) → Permᴰ {A = ℕ} [] (flat_map (λ b. []) columns)
  unfolding flat_map
  no_rows [] = Permᴰ.nil
  no_rows (b ∷ columns) = no_rows columns

  -- a row, cell by cell at the head of its column
  row_in : (g : B → ℕ) (rest : B → List ℕ) (columns : List B)
      → Permᴰ (map g columns ++ flat_map rest columns) (flat_map (λ b. g b ∷ rest b) columns)
  unfolding flat_map
  row_in g rest [] = Permᴰ.nil
  row_in g rest (b ∷ columns) =
      Permᴰ.cons refl (Permᴰ.trans (across (map g columns) (rest b) (flat_map rest columns)) (Permᴰ.append_left (rest b) (row_in g rest columns)))

  -- row by row, and column by column
  pub transposed : {A : Type 0} (f : A → B → ℕ) (rows : List A) (columns : List B)
      → Permᴰ (listed f rows columns) (listed (λ b a. f a b) columns rows)
  unfolding flat_map
  transposed f [] columns = no_rows columns
  transposed f (a ∷ rows) columns =
      Permᴰ.trans (Permᴰ.append_left (map (f a) columns) (transposed f rows columns)) (row_in (f a) (λ b. map (λ a'. f a' b) rows) columns)

-- places of a table of rows and columns that is listed row by row
module _ (rows columns : ℕ) where
  -- the place of the same cell in the list by columns
  abbrev pub moved : ℕ → ℕ
  moved place = place % columns * rows + place / columns

  module _ (place : ℕ) (inside : place < rows * columns) where
    some_column : 0 < columns
    some_column = go columns inside
      where
        go : (c : ℕ) → place < rows * c → 0 < c
        go zero h = absurd (omega arith)
        go (suc c) h = omega arith

    pub column_inside : place % columns < columns
    column_inside = mod-lt place some_column

    pub row_inside : place / columns < rows
    row_inside = (div-lt_iff_lt-mul some_column).1 inside

    -- inside that list
    pub moved_inside : moved place < columns * rows
    moved_inside = digits_lt column_inside row_inside

-- moved there and back, a place is itself: `moved` is one to one and meets every place
pub moved_back : (rows columns place : ℕ) → place < rows * columns → moved columns rows (moved rows columns place) ≡ place
moved_back rows columns place h =
    let r = row_inside rows columns place h in
    rw (digits_mod (place % columns) r, digits_div (place % columns) r) (div-add-mod' place columns)

-- the same cell stands there
pub moved_cell : {A B : Type 0} (f : A → B → ℕ) (rows : List A) (columns : List B) (place : ℕ) (y : A) (z : B) → place < length rows * length columns
    → get_or (listed f rows columns) place 0 ≡ get_or (listed (λ b a. f a b) columns rows) (moved (length rows) (length columns) place) 0
moved_cell f rows columns place y z h =
    let i = row_inside (length rows) (length columns) place h in
    let j = column_inside (length rows) (length columns) place h in
    rw (div-add-mod' place (length columns)) at (getD_listed f rows columns (place / length columns) (place % length columns) y z i j)
    ∙ sym (getD_listed (λ b a. f a b) columns rows (place % length columns) (place / length columns) z y j i)
