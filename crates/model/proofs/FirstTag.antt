-- The order in which pending tags are proposed, and what it makes of the first of those that pass a test. Only the two laws at the
-- top open `ahead`; behind the next three all goes by its being an order.
use Prim.Native.Nat.{ℕ, ◌<◌}
use native.Mathlib.Omega.{arith}
use native.Mathlib.Decide.{ℕ_discrete}
use mathlib.Core.Bool.{Bool, true, false, not, ◌&&◌, ◌||◌, true≢false, Bool-discrete}
use mathlib.Core.List.{List, [], ◌∷◌}
use mathlib.Core.Logic.{◌⊎◌, inl, inr, ⊎_elim, ◌≢◌}
use mathlib.Core.Path.{◌≡◌, refl, sym, ◌∙◌, ap, subst}
use lib.Dec.{ltb, eqb}
use borrow.Author.Tests.{ltb-true, ltb-false, lt-ltb, le-ltb, eqb-true, eqb-false, eq-eqb, ne_eqb, not-true}
use Rattle.model.specs.Tests.{if, some, listed}
use Rattle.model.specs.Rules.{urgent, ahead, earlier, first_of}
use Rattle.model.proofs.Cases.{clash, either, and_true, and_both, or_true, or_false, or_left, or_right, if-ind, some_here, some_there}

-- ---- the order

-- "A tag with its highest bit set is urgent and ranks before the rest": of two of which one is urgent, that one is ahead
unlike_ahead : (x y : ℕ) → urgent x ≢ urgent y → ahead x y ≡ urgent x
unfolding ahead if
unlike_ahead x y = go (urgent x) (urgent y) _
  where
    go : (u v smaller : Bool) → u ≢ v → (ltb (if u 0 1) (if v 0 1) || (eqb (if u 0 1) (if v 0 1) && smaller)) ≡ u
    go true true _ ne = absurd (ne refl)
    go true false _ ne = refl
    go false true _ ne = refl
    go false false _ ne = absurd (ne refl)

-- "then the smaller number counts"
pub alike_ahead : (x y : ℕ) → urgent x ≡ urgent y → ahead x y ≡ ltb x y
unfolding ahead if
alike_ahead x y same = rw same (go (urgent y))
  where
    go : (u : Bool) → (ltb (if u 0 1) (if u 0 1) || (eqb (if u 0 1) (if u 0 1) && ltb x y)) ≡ ltb x y
    go true = refl
    go false = refl

pub ahead_itself : (x : ℕ) → ahead x x ≡ false
ahead_itself x = alike_ahead x x refl ∙ le-ltb x x (omega arith)

pub ahead_apart : (x y : ℕ) → ahead x y ≡ false → ahead y x ≡ false → x ≡ y
ahead_apart x y a b = go (Bool-discrete (urgent x) (urgent y))
  where
    go : Dec (urgent x ≡ urgent y) → x ≡ y
    go (yes same) = omega (arith, ltb-false x y (sym (alike_ahead x y same) ∙ a), ltb-false y x (sym (alike_ahead y x (sym same)) ∙ b))
    go (no other) = absurd (other (sym (unlike_ahead x y other) ∙ a ∙ sym b ∙ unlike_ahead y x (λ e. other (sym e))))

-- which of the two made it so
abbrev pub Ahead : ℕ → ℕ → Type 0
Ahead x y = ((urgent x ≡ true) × (urgent y ≡ false)) ⊎ ((urgent x ≡ urgent y) × (x < y))

ahead_is : (x y : ℕ) → ahead x y ≡ true → Ahead x y
ahead_is x y e = go (Bool-discrete (urgent x) (urgent y))
  where
    go : Dec (urgent x ≡ urgent y) → Ahead x y
    go (yes same) = inr (same, ltb-true x y (sym (alike_ahead x y same) ∙ e))
    go (no other) = let u = sym (unlike_ahead x y other) ∙ e in inl (u, either (urgent y) (λ v. absurd (other (u ∙ sym v))) (λ v. v))

pub ahead_so : (x y : ℕ) → Ahead x y → ahead x y ≡ true
ahead_so x y (inl (u, v)) = unlike_ahead x y (λ same. clash (sym v ∙ sym same ∙ u)) ∙ u
ahead_so x y (inr (same, l)) = alike_ahead x y same ∙ lt-ltb x y l

pub ahead_trans : (x y z : ℕ) → ahead x y ≡ true → ahead y z ≡ true → ahead x z ≡ true
ahead_trans x y z a b = ahead_so x z (go (ahead_is x y a) (ahead_is y z b))
  where
    go : Ahead x y → Ahead y z → Ahead x z
    go (inl (u, v)) (inl (w, _)) = clash (sym v ∙ w)
    go (inl (u, v)) (inr (same, _)) = inl (u, sym same ∙ v)
    go (inr (same, _)) (inl (v, w)) = inl (same ∙ v, w)
    go (inr (same, l)) (inr (also, m)) = inr (same ∙ also, omega arith)

-- ---- the first is one of them

earlier_is : (x y : ℕ) → (earlier x y ≡ x) ⊎ ((earlier x y ≡ y) × (y ≢ 0))
unfolding earlier
earlier_is x y = if-ind (λ (a : ℕ). (a ≡ x) ⊎ ((a ≡ y) × (y ≢ 0))) _ (λ e. inl refl) (λ e. inr (refl, eqb-false y 0 (or_false (eqb y 0) _ e).0))

pub record Picked (ok : ℕ → Bool) (xs : List ℕ) (x : ℕ) : Type 0 where
  pub among : listed x xs ≡ true
  pub passes : ok x ≡ true

pub first_of_is : (ok : ℕ → Bool) (xs : List ℕ) → first_of ok xs ≢ 0 → Picked ok xs (first_of ok xs)
unfolding first_of
first_of_is ok [] ne = absurd (ne refl)
first_of_is ok (x ∷ xs) ne = if-ind (λ (a : ℕ). a ≢ 0 → Picked ok (x ∷ xs) a) (ok x && not (eqb x 0))
    (λ e _. here (and_true (ok x) _ e).0 (earlier_is x y) (first_of_is ok xs)) (λ e ne. there (first_of_is ok xs ne)) ne
  where
    y : ℕ
    y = first_of ok xs

    there : Picked ok xs y → Picked ok (x ∷ xs) y
    there p = record { among = some_there (eqb y) x xs p.among; passes = p.passes }

    here : ok x ≡ true → (earlier x y ≡ x) ⊎ ((earlier x y ≡ y) × (y ≢ 0)) → (y ≢ 0 → Picked ok xs y) → Picked ok (x ∷ xs) (earlier x y)
    here q (inl e) below = rw e (record { among = some_here (eqb x) x xs (eq-eqb x x refl); passes = q })
    here q (inr (e, ne)) below = rw e (there (below ne))

-- ---- none of them is ahead of it

abbrev pub Leads : ℕ → ℕ → Type 0
Leads x y = (x ≢ 0) × (ahead y x ≡ false)

-- what is ahead of z is not behind what is not
pub behind : (x y z : ℕ) → ahead y z ≡ false → ahead x z ≡ true → ahead y x ≡ false
behind x y z a b = go (ahead y x) refl
  where
    go : (t : Bool) → ahead y x ≡ t → ahead y x ≡ false
    go false e = e
    go true e = absurd (true≢false (sym (ahead_trans y x z e b) ∙ a))

earlier_first : (x y : ℕ) → x ≢ 0 → Leads (earlier x y) x
unfolding earlier
earlier_first x y ne = if-ind (λ (a : ℕ). Leads a x) (eqb y 0 || ahead x y) (λ e. (ne, ahead_itself x))
    (λ e. let (none, later) = or_false (eqb y 0) _ e in (eqb-false y 0 none, later))

earlier_second : (x y z : ℕ) → x ≢ 0 → Leads y z → Leads (earlier x y) z
unfolding earlier
earlier_second x y z ne (ny, l) = if-ind (λ (a : ℕ). Leads a z) (eqb y 0 || ahead x y)
    (λ e. (ne, ⊎_elim (λ q. absurd (ny (eqb-true y 0 q))) (λ q. behind x z y l q) (or_true (eqb y 0) _ e))) (λ e. (ny, l))

pub first_of_leads : (ok : ℕ → Bool) (xs : List ℕ) (y : ℕ) → listed y xs ≡ true → ok y ≡ true → y ≢ 0 → Leads (first_of ok xs) y
unfolding first_of some
first_of_leads ok [] y h k ne = clash h
first_of_leads ok (x ∷ xs) y h k ne =
    let later : listed y xs ≡ true → Leads (first_of ok xs) y = (λ q. first_of_leads ok xs y q k ne) in
    if-ind (λ (a : ℕ). Leads a y) (ok x && not (eqb x 0)) (taken later) (passed later)
  where
    taken : (listed y xs ≡ true → Leads (first_of ok xs) y) → (ok x && not (eqb x 0)) ≡ true → Leads (earlier x (first_of ok xs)) y
    taken later e =
        let some : x ≢ 0 = eqb-false x 0 (not-true _ (and_true (ok x) _ e).1) in
        ⊎_elim (λ q. subst (λ (z : ℕ). Leads (earlier x (first_of ok xs)) z) (sym (eqb-true y x q)) (earlier_first x _ some))
        (λ q. earlier_second x _ y some (later q)) (or_true (eqb y x) _ h)

    passed : (listed y xs ≡ true → Leads (first_of ok xs) y) → (ok x && not (eqb x 0)) ≡ false → Leads (first_of ok xs) y
    passed later e =
        ⊎_elim (λ q. let same = eqb-true y x q in
        clash (sym e ∙ and_both (ok x) _ (ap ok (sym same) ∙ k) (ap not (ne_eqb x 0 (λ z. ne (same ∙ z))))))
        later (or_true (eqb y x) _ h)

-- ---- it is the only such one

pub first_of_only : (ok : ℕ → Bool) (xs : List ℕ) (x : ℕ) → x ≢ 0 → Picked ok xs x
    → ((y : ℕ) → listed y xs ≡ true → ok y ≡ true → y ≢ 0 → ahead y x ≡ false) → first_of ok xs ≡ x
first_of_only ok xs x ne p leads =
    let (some, l) = first_of_leads ok xs x p.among p.passes ne in
    let q = first_of_is ok xs some in
    ahead_apart (first_of ok xs) x (leads _ q.among q.passes some) l

-- the first of those that pass a test is the first of those that pass a narrower one, if it passes that too
pub first_of_narrow : (ok fewer : ℕ → Bool) (xs : List ℕ) → ((y : ℕ) → fewer y ≡ true → ok y ≡ true) → first_of ok xs ≢ 0
    → fewer (first_of ok xs) ≡ true → first_of fewer xs ≡ first_of ok xs
first_of_narrow ok fewer xs within ne passes =
    let x = first_of ok xs in
    first_of_only fewer xs x ne (record { among = (first_of_is ok xs ne).among; passes = passes })
    (λ y h k some. (first_of_leads ok xs y h (within y k) some).1)

-- ---- none passes, or one of two tests does

pub first_of_none : (ok : ℕ → Bool) (xs : List ℕ) → ((x : ℕ) → ok x ≡ false) → first_of ok xs ≡ 0
unfolding first_of if
first_of_none ok [] none = refl
first_of_none ok (x ∷ xs) none = rw (none x) (first_of_none ok xs none)

-- what does not come ahead of y does not come ahead of what y is not ahead of
pub not_ahead : (x y z : ℕ) → ahead z y ≡ false → ahead y x ≡ false → ahead z x ≡ false
not_ahead x y z a b = either (ahead z x) (λ e. clash (sym a ∙ either (ahead x y) (ahead_trans z x y e) (λ f. same e (ahead_apart x y f b)))) (λ e. e)
  where
    same : ahead z x ≡ true → x ≡ y → ahead z y ≡ true
    same e q = subst (λ (w : ℕ). ahead z w ≡ true) q e

-- the first of those that pass one of two tests is the first of the two firsts
module _ (ok other : ℕ → Bool) (xs : List ℕ) where
  abbrev a : ℕ
  a = first_of ok xs

  abbrev b : ℕ
  b = first_of other xs

  abbrev one_of : ℕ → Bool
  one_of x = ok x || other x

  -- whichever of the two it is
  of_two : (r : ℕ) → (r ≡ a) ⊎ (r ≡ b) → (a ≢ 0 → Leads r a) → (b ≢ 0 → Leads r b) → first_of one_of xs ≡ r
  of_two r is over-a over-b = go (ℕ_discrete r 0) (ℕ_discrete (first_of one_of xs) 0)
    where
      leads : (y : ℕ) → listed y xs ≡ true → one_of y ≡ true → y ≢ 0 → Leads r y
      leads y h k ne = ⊎_elim
          (λ q. let l = first_of_leads ok xs y h q ne in let m = over-a l.0 in (m.0, not_ahead r a y l.1 m.1))
          (λ q. let l = first_of_leads other xs y h q ne in let m = over-b l.0 in (m.0, not_ahead r b y l.1 m.1))
          (or_true (ok y) _ k)

      picked : r ≢ 0 → (r ≡ a) ⊎ (r ≡ b) → Picked one_of xs r
      picked ne (inl e) = let p = first_of_is ok xs (λ z. ne (e ∙ z)) in rw e (record { among = p.among; passes = or_left (ok a) _ p.passes })
      picked ne (inr e) = let p = first_of_is other xs (λ z. ne (e ∙ z)) in rw e (record { among = p.among; passes = or_right (ok b) _ p.passes })

      go : Dec (r ≡ 0) → Dec (first_of one_of xs ≡ 0) → first_of one_of xs ≡ r
      go (no ne) f = first_of_only one_of xs r ne (picked ne is) (λ y h k some. (leads y h k some).1)
      go (yes e) (yes z) = z ∙ sym e
      go (yes e) (no some) = let p = first_of_is one_of xs some in absurd ((leads _ p.among p.passes some).0 e)

  -- 0 is none
  pub first_of_either : first_of one_of xs ≡ if (eqb a 0) b (earlier a b)
  first_of_either = if-ind (λ (r : ℕ). first_of one_of xs ≡ r) (eqb a 0)
      (λ z. of_two b (inr refl) (λ ne. absurd (ne (eqb-true a 0 z))) (λ ne. (ne, ahead_itself b)))
      (λ z. let some = eqb-false a 0 z in
      of_two (earlier a b) (⊎_elim inl (λ e. inr e.0) (earlier_is a b)) (earlier_first a b) (λ ne. earlier_second a b b some (ne, ahead_itself b)))
