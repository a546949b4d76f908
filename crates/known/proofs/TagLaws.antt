-- Where a tag stands among the known ones, turn by turn; what its place tells, and what holding it stores.
use mathlib.Core.Path.{◌≡◌, refl, sym, ◌∙◌, ap, ap₂, subst}
use mathlib.Core.Bool.{Bool, true, false, not, ◌&&◌, ◌||◌}
use mathlib.Core.List.{List, [], ◌∷◌}
use mathlib.Core.Logic.{◌≢◌}
use Prim.Native.Nat.{ℕ, zero, suc, ◌+◌, ◌-◌, ◌^◌, ◌<◌, ◌≤◌}
use native.Mathlib.Omega.{arith}
use native.Mathlib.Numerals.{add-one}
use lib.Dec.{leb, ltb, eqb, leb-suc-suc}
use lib.ListN.{length, get_or, set, take, drop}
use lib.Seq.{drop-cons, get_or-take, length-take-le, drop-length}
use Rattle.std.specs.List.{slice_range, AllWithin, HoldsAt}
use Rattle.std.specs.Option.{MatchOption, option_map_or}
use Rattle.std.specs.declared.option.Option.{Option}
use Rattle.std.specs.declared.option.Option.TheVariants.{None, Some}
use Rattle.std.proofs.lemmas.List.{get_or-drop, length-drop}
use borrow.Author.Tests.{eq-eqb, ne_eqb, eqb-false, ltb-true, ltb-false, lt-ltb, le-ltb}
use Rattle.model.specs.declared.Numbers.{Numbers}
use Rattle.model.specs.Tests.{if, some, listed}
use Rattle.model.proofs.Branches.{if-true, if-false}
use Rattle.model.proofs.Cases.{either, if-ind}
use Rattle.tables.specs.Layout.{with_bit, known_cell, known_in, holders_base}
use Rattle.tables.specs.View.{held_from}
use Rattle.tables.specs.Write.{place_in, orders_held, words_held}
use Rattle.model.proofs.Counting.{any_nowhere}
use Rattle.known.specs.Room.{Room, Absent, FirstPlace}

-- the known tags stand in their memory
pub in_tags : {N : Numbers} {ws os : List ℕ} → Room N ws os → known_in ws ≤ length os
in_tags r = let a = r.known in let b = r.orders in omega arith

-- a tag is listed if its place is inside the list
listed_place : (x : ℕ) (l : List ℕ) → listed x l ≡ ltb (place_in x l) (length l)
unfolding some place_in if
listed_place x [] = refl
listed_place x (y ∷ ys) = go (eqb x y) (listed_place x ys ∙ sym (leb-suc-suc (suc (place_in x ys)) (length ys)))
  where
    go : (b : Bool) → listed x ys ≡ ltb (suc (place_in x ys)) (suc (length ys))
        → (b || listed x ys) ≡ ltb (if b 0 (suc (place_in x ys))) (suc (length ys))
    go true e = sym (lt-ltb 0 (suc (length ys)) (omega arith))
    go false e = e

-- a number before the place of a tag: the list does not begin with the tag
past : (b : Bool) {i j : ℕ} → j < if b 0 (suc i) → (b ≡ false) × (j ≤ i)
past b {i} {j} = if-ind (λ (p : ℕ). j < p → (b ≡ false) × (j ≤ i)) b (λ _ h. absurd (omega arith)) (λ e h. (e, omega arith))

-- its place is inside the list or just past its end
place_within : (x : ℕ) (l : List ℕ) → place_in x l ≤ length l
unfolding place_in
place_within x [] = omega arith
place_within x (y ∷ ys) = let more = place_within x ys in if-ind (λ (i : ℕ). i ≤ length (y ∷ ys)) (eqb x y) (λ _. omega arith) (λ _. omega arith)

-- and the tag does not stand before it
not_before : (x : ℕ) (l : List ℕ) (j : ℕ) → j < place_in x l → eqb (get_or l j 0) x ≡ false
unfolding place_in
not_before x [] j h = absurd (omega arith)
not_before x (y ∷ ys) zero h = ne_eqb y x (λ e. eqb-false x y (past _ h).0 (sym e))
not_before x (y ∷ ys) (suc j) h = let l = (past _ h).1 in not_before x ys j (omega arith)

-- ---- the search for a cell

module _ (cells : List ℕ) (a b : ℕ) where
  -- the cells from a to b as a list of their own: how many, and each
  pub part_count : a ≤ b → b ≤ length cells → length (slice_range cells a b) ≡ b - a
  part_count low long = length-take-le (b - a) (drop a cells) (omega (arith, length-drop a cells))

  pub part_cell : (i : ℕ) → i < b - a → get_or (slice_range cells a b) i 0 ≡ get_or cells (a + i) 0
  part_cell i l = get_or-take (b - a) (drop a cells) i 0 l ∙ get_or-drop a cells i 0

module _ (cells : List ℕ) (x a b : ℕ) where
  abbrev part : List ℕ
  part = slice_range cells a b

  -- what `position` says of the cells from a to b
  abbrev Position : Option ℕ → Type 0
  Position o = MatchOption o (AllWithin (λ y. y ≢ x) part 0 (length part))
      (λ i. (i < length part) × HoldsAt (λ y. y ≡ x) part i × AllWithin (λ y. y ≢ x) part 0 i)

  -- it is the first of them that has x
  pub cell_found : (o : Option ℕ) {r : ℕ} → a ≤ b → b ≤ length cells → Position o → r ≡ option_map_or (λ i. a + i) o b → FirstPlace cells x a b r
  cell_found o low long found e = subst (FirstPlace cells x a b) (sym e) (go o found)
    where
      count : length part ≡ b - a
      count = part_count cells a b low long

      apart_to : (n : ℕ) → n ≤ b - a → AllWithin (λ y. y ≢ x) part 0 n → Absent cells x a (a + n)
      apart_to n few apart = record {
        apart = λ j h l.
            let at : a + (j - a) ≡ j = omega arith in
            subst (λ (k : ℕ). get_or cells k 0 ≢ x) at (rw (← part_cell cells a b (j - a) (omega arith)) (apart (j - a) 0 (omega arith) (omega arith)));
      }

      go : (o : Option ℕ) → Position o → FirstPlace cells x a b (option_map_or (λ i. a + i) o b)
      go None apart = let end : a + (b - a) ≡ b = omega arith in record {
        from = low;
        to = omega arith;
        has = λ h. absurd (omega arith);
        absent = subst (Absent cells x a) end (apart_to (b - a) (omega arith) (rw count at apart));
      }
      go (Some i) (inside, has, before) = let short = count in record {
        from = omega arith;
        to = omega arith;
        has = λ h. sym (part_cell cells a b i (omega arith)) ∙ has 0;
        absent = apart_to i (omega arith) before;
      }

-- two stretches one behind the other
pub absent_both : {cells : List ℕ} {x a b c : ℕ} → Absent cells x a b → Absent cells x b c → Absent cells x a c
absent_both {b = b} none more =
    record { apart = λ j h l. either (ltb j b) (λ e. none.apart j h (ltb-true j b e)) (λ e. more.apart j (ltb-false j b e) l) }

-- a search that comes to the end
pub absent_all : {cells : List ℕ} {x a b r : ℕ} → FirstPlace cells x a b r → b ≤ r → Absent cells x a b
absent_all f past = record { apart = λ j h l. f.absent.apart j h (omega arith) }

-- the first place that a search from the start of a list finds is that of the definition
place_found : (x : ℕ) (l : List ℕ) (r : ℕ) → FirstPlace l x 0 (length l) r → r ≡ place_in x l
unfolding place_in if
place_found x [] r f = let h = f.to in omega arith
place_found x (y ∷ ys) zero f = rw (eq-eqb x y (sym (f.has (omega arith))))
place_found x (y ∷ ys) (suc r) f =
    rw (ne_eqb x y (λ e. f.absent.apart 0 (omega arith) (omega arith) (sym e))) (ap suc (place_found x ys r (record {
      from = omega arith;
      to = let h = f.to in omega arith;
      has = λ l. f.has (omega arith);
      absent = record { apart = λ j h l. f.absent.apart (suc j) (omega arith) (omega arith) };
    })))

module _ (ts : List ℕ) (k : ℕ) where
  -- the known tags from place i on
  abbrev pub rest : ℕ → List ℕ
  rest i = drop i (take k ts)

  module _ (l : k ≤ length ts) where
    -- past the last there are none
    pub rest_none : rest k ≡ []
    rest_none = ap rest (sym (length-take-le k ts l)) ∙ drop-length (take k ts)

    -- the first of them, and those after it
    pub rest_more : (i : ℕ) → i < k → rest i ≡ get_or ts i 0 ∷ rest (suc i)
    rest_more i h = drop-cons (take k ts) i 0 (rw (length-take-le k ts l) h) ∙ ap (λ (y : ℕ). y ∷ rest (suc i)) (get_or-take k ts i 0 h)

    -- the known tags as a list of their own
    pub place_is : {x r : ℕ} → FirstPlace ts x 0 k r → r ≡ place_in x (take k ts)
    place_is {x} {r} f = place_found x (take k ts) r (record {
      from = f.from;
      to = rw (length-take-le k ts l) f.to;
      has = λ h. let inside = rw (length-take-le k ts l) at h in get_or-take k ts r 0 inside ∙ f.has inside;
      absent = record { apart = λ j h g. let to = f.to in rw (get_or-take k ts j 0 (omega arith)) (f.absent.apart j h g) };
    })

    module _ (x : ℕ) where
      -- ---- what its place tells

      -- whether it is listed
      pub known_place : {i : ℕ} → i ≡ place_in x (take k ts) → ltb i k ≡ listed x (take k ts)
      known_place e = ap₂ ltb e (sym (length-take-le k ts l)) ∙ sym (listed_place x (take k ts))

      -- refusal 8 asks whether the tag is new and no room is left
      pub room_for : (room : ℕ) {i : ℕ} → i ≡ place_in x (take k ts)
          → (not (listed x (take k ts)) && leb room (length (take k ts))) ≡ (not (ltb i k) && leb room k)
      room_for room e = ap₂ (λ (a : Bool) (j : ℕ). not a && leb room j) (sym (known_place e)) (length-take-le k ts l)

      -- ---- who holds it

      module _ (base : ℕ) (ws : List ℕ) (c i : ℕ) where
        -- it is not held before its first place
        pub held_before : i ≡ place_in x (take k ts) → (i ≤ k) × (held_from base i ts ws c x ≡ false)
        unfolding held_from
        held_before e =
            let inside = rw (length-take-le k ts l) at (place_within x (take k ts)) in
            (omega arith, any_nowhere i _ (λ j h. rw (sym (get_or-take k ts j 0 (omega arith)), not_before x (take k ts) j (omega arith))))

      -- ---- what holding it stores

      module _ {i : ℕ} (place : i ≡ place_in x (take k ts)) where
        -- a place below the count: listed
        is_known : i < k → listed x (take k ts) ≡ true
        is_known h = sym (known_place place) ∙ lt-ltb i k h

        -- else not listed
        is_new : k ≤ i → listed x (take k ts) ≡ false
        is_new h = sym (known_place place) ∙ le-ltb i k h

-- ---- what holding a tag stores, by the base, the count and the place as the code has found them
module _ (N : Numbers) (ws os : List ℕ) (room : Room N ws os) {base k : ℕ} (from : base ≡ holders_base N) (count : k ≡ known_in ws) (x : ℕ) {i : ℕ}
    (place : i ≡ place_in x (take k os)) where
  few : k ≤ length os
  few = let l = in_tags room in omega arith

  module _ (c : ℕ) where
    -- replica c holds the tag
    abbrev Held : List ℕ → List ℕ → Type 0
    Held ws' os' = (ws' ≡ words_held N c x os ws) × (os' ≡ orders_held x (known_in ws) os)

    abbrev words_with : ℕ → ℕ → List ℕ
    words_with b k = let i = b + place_in x (take k os) in
        if (listed x (take k os)) (set ws i (with_bit (get_or ws i 0) c)) (set (set ws (b + k) (2 ^ c)) known_cell (suc k))

    -- what is stored by the base and the count is what the definition stores
    by_reading : {ws' os' : List ℕ} → (ws' ≡ words_with base k) × (os' ≡ orders_held x k os) → Held ws' os'
    by_reading q = (q.0 ∙ ap₂ words_with from count, q.1 ∙ ap (λ (k : ℕ). orders_held x k os) count)

    -- a known tag: its mask gets the bit
    pub held_known : {m : ℕ} → i < k → m ≡ with_bit (get_or ws (base + i) 0) c → Held (set ws (base + i) m) os
    held_known h e =
        let stored = ap (set ws (base + i)) e ∙ ap (λ (j : ℕ). set ws (base + j) (with_bit (get_or ws (base + j) 0) c)) place in
        let known = is_known os k few x place h in
        by_reading (stored ∙ sym (if-true _ _ known), sym (if-true _ _ known))

    -- a new one: the tag, its mask and the count
    pub held_new : {m : ℕ} → k ≤ i → m ≡ 2 ^ c → Held (set (set ws (base + k) m) known_cell (k + 1)) (set os k x)
    held_new h e =
        let stored = ap₂ (λ (m n : ℕ). set (set ws (base + k) m) known_cell n) e (add-one k) in
        let new = is_new os k few x place h in
        by_reading (stored ∙ sym (if-false _ _ new), sym (if-false _ _ new))
