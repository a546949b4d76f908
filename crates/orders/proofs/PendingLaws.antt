-- The tag to propose. The loop goes from the front and asks for the replica's bit at each place itself; the definition goes
-- from the end and asks whether the tag there is held at any place. Both find the first of the same tags, even where a tag
-- stands twice.
use mathlib.Core.Path.{◌≡◌, refl, sym, ◌∙◌, ap, ap₂, subst, fun_ext}
use mathlib.Core.Bool.{Bool, true, false, not, ◌&&◌, ◌||◌, true≢false, and-false as and_false_right}
use mathlib.Core.List.{List}
use mathlib.Core.Logic.{◌⊎◌, inl, inr, ⊎_elim}
use Prim.Native.Nat.{ℕ, zero, suc, ◌+◌, ◌-◌, ◌^◌, ◌<◌, ◌≤◌}
use native.Mathlib.Omega.{arith}
use native.Mathlib.Decide.{ℕ_discrete}
use lib.Dec.{ltb, eqb}
use lib.ListN.{length, get_or, take}
use lib.Seq.{get_or-take}
use Rattle.std.specs.List.{slice_range}
use borrow.Author.Tests.{leb-true, leb-false, ltb-true, ltb-false, lt-ltb, le-ltb, eqb-true, eqb-false, eq-eqb, ne_eqb, not-true, not-false}
use Rattle.model.specs.Tests.{if, any}
use Rattle.model.specs.declared.Numbers.{Numbers}
use Rattle.model.specs.declared.Round.TheVariants.{Idle}
use Rattle.model.specs.Rack.{Replica}
use Rattle.model.specs.Rules.{urgent, ahead, earlier, first_of, logged, pending, next_tag}
use Rattle.model.proofs.Branches.{told, if-true, if-false}
use Rattle.model.proofs.Cases.{either, and_true, and_both, or_true, or_false, if-ind}
use Rattle.tables.specs.Layout.{has_bit, known_in, holders_base, holder_cell, log_cell}
use Rattle.tables.specs.View.{held_from, holds, log_in}
use Rattle.tables.specs.Addresses.{log_in_range, log_read}
use Rattle.model.proofs.FirstTag.{alike_ahead, ahead_itself, ahead_apart, ahead_so, behind, not_ahead}
use Rattle.model.proofs.Counting.{any_nowhere, any_here, any_place, any_same}
use Rattle.known.specs.Room.{Acting, as_holder, FirstPlace}
use Rattle.orders.specs.Waiting.{logged_in, waits_at}
use Rattle.known.proofs.TagLaws.{in_tags, rest, rest_none, rest_more, absent_all, absent_both, part_count, part_cell}

-- ---- which of two tags is ahead

module _ (x y : ℕ) {a b : ℕ} (p : a ≡ if (urgent x) (x - 2 ^ 63) (x + 2 ^ 63)) (q : b ≡ if (urgent y) (y - 2 ^ 63) (y + 2 ^ 63)) where
  -- both are urgent, or neither: turned over they keep their order
  alike : urgent x ≡ urgent y → (x < y → a < b) → (y ≤ x → b ≤ a) → ltb a b ≡ ahead x y
  alike same less more = either (ltb x y) (λ e. lt-ltb a b (less (ltb-true x y e)) ∙ sym e) (λ e. le-ltb a b (more (ltb-false x y e)) ∙ sym e)
      ∙ sym (alike_ahead x y same)

  -- as far as they have 64 bits
  pub turned_ahead : x < 2 ^ 64 → y < 2 ^ 64 → ltb a b ≡ ahead x y
  turned_ahead fits also = either (urgent x) of_urgent of_rest
    where
      of_urgent : urgent x ≡ true → ltb a b ≡ ahead x y
      of_urgent u = let h = leb-true (2 ^ 63) x u in let l = p ∙ if-true _ _ u in either (urgent y)
          (λ v. let k = leb-true (2 ^ 63) y v in let m = q ∙ if-true _ _ v in alike (u ∙ sym v) (λ g. omega arith) (λ g. omega arith))
          (λ v. let k = leb-false (2 ^ 63) y v in let m = q ∙ if-false _ _ v in lt-ltb a b (omega arith) ∙ sym (ahead_so x y (inl (u, v))))

      of_rest : urgent x ≡ false → ltb a b ≡ ahead x y
      of_rest u = let h = leb-false (2 ^ 63) x u in let l = p ∙ if-false _ _ u in either (urgent y)
          (λ v. let k = leb-true (2 ^ 63) y v in let m = q ∙ if-true _ _ v in
          le-ltb a b (omega arith) ∙ sym (behind y x x (ahead_itself x) (ahead_so y x (inl (v, u)))))
          (λ v. let k = leb-false (2 ^ 63) y v in let m = q ∙ if-false _ _ v in alike (u ∙ sym v) (λ g. omega arith) (λ g. omega arith))

-- ---- the first of some tags

-- r is not proposed after x
abbrev pub NoLater : ℕ → ℕ → Type 0
NoLater r x = ahead x r ≡ false

-- 0 is none, and tags of 0 are passed over
abbrev pub First : (ℕ → Type 0) → ℕ → Type 0
First Is r = ((x : ℕ) → Is x → 0 < x → (0 < r) × NoLater r x) × (0 < r → Is r)

-- the first of the same tags is the same
same_first : {A B : ℕ → Type 0} {r s : ℕ} → ((x : ℕ) → A x → B x) → ((x : ℕ) → B x → A x) → First A r → First B s → r ≡ s
same_first {r = r} {s = s} to back a b = go r s (λ h. b.0 r (to r (a.1 h)) h) (λ h. a.0 s (back s (b.1 h)) h)
  where
    go : (r s : ℕ) → (0 < r → (0 < s) × NoLater s r) → (0 < s → (0 < r) × NoLater r s) → r ≡ s
    go zero zero f g = refl
    go zero (suc s) f g = let h = (g (omega arith)).0 in omega arith
    go (suc r) s f g = let h = f (omega arith) in ahead_apart _ _ h.1 (g h.0).1

-- the first of the tags so far, and of one more that may pass
abbrev joined : Bool → ℕ → ℕ → ℕ
joined ok y b = if (ok && not (eqb y 0)) (earlier y b) b

-- a tag y beside the first so far: one law for each way out of the code. It passes if its place has the replica's bit and its
-- log has no such entry.
module _ (bit logged : Bool) (y b : ℕ) where
  abbrev pub passes : Bool
  passes = bit && not logged

  -- it is 0
  pub stays_blank : eqb y 0 ≡ true → b ≡ joined passes y b
  unfolding if
  stays_blank e = rw (e, and_false_right passes)

  -- it does not come ahead, whether it passes or not
  pub stays_behind : {l : Bool} → l ≡ (eqb b 0 || ahead y b) → not l ≡ true → b ≡ joined passes y b
  unfolding earlier
  stays_behind e q =
      if-ind (λ (r : ℕ). b ≡ r) (passes && not (eqb y 0)) (λ _. sym (if-false _ _ (told e (not-true _ q)))) (λ _. refl)

  -- the bit is not there
  pub stays_unheld : {h : Bool} → h ≡ bit → not h ≡ true → b ≡ joined passes y b
  unfolding if
  stays_unheld e q = rw (told e (not-true _ q))

  -- the log has it
  pub stays_logged : logged ≡ true → b ≡ joined passes y b
  unfolding if
  stays_logged e = rw (e, and_false_right bit)

  -- it comes ahead and passes
  pub comes_ahead : {l h : Bool} → eqb y 0 ≡ false → l ≡ (eqb b 0 || ahead y b) → not l ≡ false → h ≡ bit → not h ≡ false → logged ≡ false
      → y ≡ joined passes y b
  unfolding earlier if
  comes_ahead some e q held t new = rw (told held (not-false _ t), new, some, told e (not-false _ q))

-- B is A and one more tag y, if it passes
module _ {A B : ℕ → Type 0} (ok : Bool) (y : ℕ) (kept : (x : ℕ) → A x → B x) (added : ok ≡ true → B y)
    (no_more : (x : ℕ) → B x → A x ⊎ ((ok ≡ true) × (y ≡ x))) {b : ℕ} (f : First A b) where
  -- what is no later than y and than b is no later than any
  least : (r : ℕ) → (ok ≡ true → 0 < y → (0 < r) × NoLater r y) → (0 < b → (0 < r) × NoLater r b) → (0 < r → B r) → First B r
  least r new old found = (λ x is pos. go x pos (no_more x is), found)
    where
      go : (x : ℕ) → 0 < x → A x ⊎ ((ok ≡ true) × (y ≡ x)) → (0 < r) × NoLater r x
      go x pos (inl is) = let l = f.0 x is pos in let m = old l.0 in (m.0, not_ahead r b x l.1 m.1)
      go x pos (inr (u, same)) = let m = new u (omega arith) in (m.0, subst (NoLater r) same m.1)

  -- b stays one of them
  further : 0 < b → B b
  further pos = kept b (f.1 pos)

  -- y comes ahead of b, or there is no b
  first_ahead : (eqb b 0 || ahead y b) ≡ true → 0 < b → NoLater y b
  first_ahead q pos = ⊎_elim (λ n. let p = eqb-true b 0 n in absurd (omega arith)) (behind y b b (ahead_itself b)) (or_true (eqb b 0) _ q)

  -- y does not pass, or is 0
  left : (ok && not (eqb y 0)) ≡ false → First B b
  left e =
      let never : ok ≡ true → 0 < y → ⊥ = (λ u pos. true≢false (sym (and_both ok _ u (ap not (ne_eqb y 0 (omega arith)))) ∙ e)) in
      least b (λ u pos. absurd (never u pos)) (λ pos. (pos, ahead_itself b)) further

  -- y passes
  taken : (ok && not (eqb y 0)) ≡ true → First B (earlier y b)
  unfolding earlier
  taken e = let (u, z) = and_true ok _ e in let some = eqb-false y 0 (not-true _ z) in if-ind (First B) (eqb b 0 || ahead y b)
      (λ q. least y (λ _ pos. (pos, ahead_itself y)) (λ pos. (omega arith, first_ahead q pos)) (λ _. added u))
      (λ q. let (n, l) = or_false (eqb b 0) _ q in let p = eqb-false b 0 n in
      least b (λ _ pos. (omega arith, l)) (λ pos. (pos, ahead_itself b)) further)

  -- one more tag
  turn : First B (joined ok y b)
  turn = if-ind (First B) (ok && not (eqb y 0)) taken left

module _ (ts : List ℕ) where
  -- the tag stands at a place from a to b, b not included, one that passes
  abbrev pub Stands : (ℕ → Bool) → ℕ → ℕ → ℕ → Type 0
  Stands ok a b x = (j : ℕ) × (a ≤ j) × (j < b) × (ok j ≡ true) × (get_or ts j 0 ≡ x)

  module _ (ok : ℕ → Bool) where
    -- no place yet
    pub first_none : (a : ℕ) → First (Stands ok a a) 0
    first_none a = (λ x (j, from, to, _, _) pos. absurd (omega arith), λ pos. absurd (omega arith))

    -- place i is one more, before the others or after them
    stands_more : (i : ℕ) {a b a' b' r : ℕ} → a' ≤ i → i < b' → ((j : ℕ) → a ≤ j → j < b → (a' ≤ j) × (j < b'))
        → ((j : ℕ) → a' ≤ j → j < b' → (j ≡ i → ⊥) → (a ≤ j) × (j < b)) → First (Stands ok a b) r → First (Stands ok a' b') (joined (ok i) (get_or ts i 0) r)
    stands_more i {a} {b} {a'} {b'} from to kept no_more =
        turn (ok i) (get_or ts i 0) (λ x (j, h, l, passes, tag). (j, (kept j h l).0, (kept j h l).1, passes, tag)) (λ u. (i, from, to, u, refl))
        (λ x (j, h, l, passes, tag). go x j h l passes tag (ℕ_discrete j i))
      where
        go : (x j : ℕ) → a' ≤ j → j < b' → ok j ≡ true → get_or ts j 0 ≡ x → Dec (j ≡ i) → Stands ok a b x ⊎ ((ok i ≡ true) × (get_or ts i 0 ≡ x))
        go x j h l passes tag (yes e) = inr (ap ok (sym e) ∙ passes, ap (λ (n : ℕ). get_or ts n 0) (sym e) ∙ tag)
        go x j h l passes tag (no ne) = let (h', l') = no_more j h l ne in inl (j, h', l', passes, tag)

    -- a turn of the loop
    pub first_more : (i : ℕ) {b r : ℕ} → First (Stands ok 0 i) b → r ≡ joined (ok i) (get_or ts i 0) b → First (Stands ok 0 (i + 1)) r
    first_more i f e =
        subst (First (Stands ok 0 (i + 1))) (sym e)
        (stands_more i (omega arith) (omega arith) (λ j h l. (h, omega arith)) (λ j h l ne. (h, omega arith)) f)

-- a turn of the loop, over the known tags and their masks: the next tag and mask are those of place i
pub first_turn : (os ws log : List ℕ) (h k c i : ℕ) {j tag mask b r : ℕ} → i < k → j ≡ i + 1
    → tag ≡ get_or (take k os) i 0 → mask ≡ get_or (slice_range ws h (h + k)) i 0
    → First (Stands os (waits_at h log c ws os) 0 i) b → r ≡ joined (has_bit mask c && not (logged_in log tag)) tag b
    → First (Stands os (waits_at h log c ws os) 0 j) r
first_turn os ws log h k c i {b = b} {r = r} inside next tag mask f e =
    let new = ap₂ (λ (x m : ℕ). joined (has_bit m c && not (logged_in log x)) x b)
    (tag ∙ get_or-take k os i 0 inside) (mask ∙ part_cell ws h (h + k) i (omega arith)) in
    subst (λ (n : ℕ). First (Stands os (waits_at h log c ws os) 0 n) r) (sym next) (first_more os _ i f (e ∙ new))

-- ---- the definition's, whose test is of the tag

module _ (ts : List ℕ) (k : ℕ) (l : k ≤ length ts) (ok : ℕ → Bool) where
  -- it is the first of the tags from place i on
  abbrev Found : ℕ → List ℕ → Type 0
  Found i xs = First (Stands ts (λ j. ok (get_or ts j 0)) i k) (first_of ok xs)

  -- from the last place to the first
  of_rest : (left i : ℕ) → i + left ≡ k → Found i (rest ts k i)
  unfolding first_of
  of_rest zero i e =
      let h : k ≡ i = omega arith in
      subst (λ (j : ℕ). Found j (rest ts k j)) h (subst (Found k) (sym (rest_none ts k l)) (first_none ts _ k))
  of_rest (suc left) i e =
      subst (Found i) (sym (rest_more ts k l i (omega arith)))
      (stands_more ts _ i (omega arith) (omega arith) (λ j h l. (omega arith, l)) (λ j h l ne. (omega arith, l)) (of_rest left (suc i) (omega arith)))

-- ---- the log, entry by entry

-- a replica's entries stand one behind the other, from that of slot 0 on
entry_there : (N : Numbers) (os : List ℕ) (c s : ℕ) {base : ℕ} → base ≡ log_cell N c 0 → s < N.slots → get_or os (base + s) 0 ≡ log_in N os c s
entry_there N os c s from h = let e : log_cell N c 0 + s ≡ log_cell N c s = omega arith in rw (from, e) (log_read N os c s h)

-- and all of them stand in their memory
pub log_there : {N : Numbers} {c : ℕ} {ws os : List ℕ} (s : ℕ) {base : ℕ} → Acting N c ws os → base ≡ log_cell N c 0 → s ≤ N.slots
    → base + s ≤ length os
log_there {N} {c} s acts from low =
    let some = acts.room.bounds.slots_some in
    let last = log_in_range N c (N.slots - 1) acts.who (omega arith) in
    let enough = acts.room.orders in
    omega arith

-- a search of the log, or of a part of it, has found the tag
pub entry_met : {log : List ℕ} {x a b r : ℕ} → FirstPlace log x a b r → r < b → b ≤ length log → (r < length log) × (logged_in log x ≡ true)
unfolding logged_in
entry_met {log} {x} {r = r} f l few = (omega arith, any_here (length log) _ r (omega arith) (eq-eqb _ x (f.has l)))

-- neither the later entries nor the earlier ones are it
pub entry_missed : {log : List ℕ} {x from r q : ℕ} → FirstPlace log x from (length log) r → length log ≤ r → FirstPlace log x 0 from q → from ≤ q
    → logged_in log x ≡ false
unfolding logged_in
entry_missed {log} later past earlier past' =
    let none = absent_both (absent_all earlier past') (absent_all later past) in
    any_nowhere (length log) _ (λ s h. ne_eqb _ _ (none.apart s (omega arith) h))

-- ---- a tag is held where it stands, or at another place that has it

module _ (N : Numbers) (c s : ℕ) (ws os : List ℕ) where
  abbrev known : ℕ
  known = known_in ws

  abbrev own : Replica
  own = as_holder N c Idle s ws os

  -- what is asked of a place
  abbrev waits : ℕ → Bool
  waits j = has_bit (get_or ws (holder_cell N j) 0) c && not (logged own (get_or os j 0))

  -- a tag that waits at its place is pending
  pending_here : (x : ℕ) → Stands os waits 0 known x → Stands os (λ j. pending own (get_or os j 0)) 0 known x
  unfolding held_from
  pending_here x (j, from, to, passes, tag) =
      let (b, new) = and_true (has_bit (get_or ws (holder_cell N j) 0) c) _ passes in
      let at : ℕ → Bool = λ a. eqb (get_or os a 0) (get_or os j 0) && has_bit (get_or ws (holder_cell N a) 0) c in
      let held = any_here known at j to (and_both _ _ (eq-eqb (get_or os j 0) _ refl) b) in
      (j, from, to, and_both _ _ held new, tag)

  -- a pending tag waits at some place
  held_somewhere : (x : ℕ) → Stands os (λ j. pending own (get_or os j 0)) 0 known x → Stands os waits 0 known x
  unfolding held_from
  held_somewhere x (j, from, to, passes, tag) =
      let (held, new) = and_true (holds N known os ws c (get_or os j 0)) _ passes in
      let (a, inside, both) = any_place known _ held in
      let (e, b) = and_true (eqb (get_or os a 0) (get_or os j 0)) _ both in
      let same = eqb-true _ _ e in
      (a, omega arith, inside, and_both _ _ b (ap (λ (y : ℕ). not (logged own y)) same ∙ new), same ∙ tag)

  module _ {holders start : ℕ} {log : List ℕ} (acts : Acting N c ws os) (masks : holders ≡ holders_base N) (from : start ≡ log_cell N c 0)
      (entries : log ≡ slice_range os start (start + s)) (low : s ≤ N.slots) where
    closed : length log ≡ s
    closed = let there = log_there s acts from low in ap length entries ∙ part_count os start (start + s) (omega arith) (omega arith) ∙ omega arith

    entry_is : (i : ℕ) → i < s → get_or log i 0 ≡ log_in N os c i
    entry_is i h =
        ap (λ (l : List ℕ). get_or l i 0) entries ∙ part_cell os start (start + s) i (omega arith) ∙ entry_there N os c i from (omega arith)

    -- the code asks a place the same
    asks_alike : waits_at holders log c ws os ≡ waits
    unfolding logged_in
    asks_alike = fun_ext (λ j. ap₂ (λ (b : ℕ) (l : Bool). has_bit (get_or ws (b + j) 0) c && not l) masks
        (ap (λ (n : ℕ). any n (λ i. eqb (get_or log i 0) (get_or os j 0))) closed
        ∙ any_same s _ _ (λ i h. ap (λ (y : ℕ). eqb y (get_or os j 0)) (entry_is i h))))

    -- the loop's first, after all places, is the definition's
    pub first_is : {k i r : ℕ} → k ≡ known_in ws → i ≡ k → First (Stands os (waits_at holders log c ws os) 0 i) r
        → r ≡ next_tag (take known os) own
    first_is {r = r} count at f =
        let all = ap₂ (λ (ok : ℕ → Bool) (j : ℕ). First (Stands os ok 0 j) r) asks_alike (at ∙ count) in
        same_first pending_here held_somewhere (subst (λ (A : Type 0). A) all f) (of_rest os known (in_tags acts.room) (pending own) known 0 (omega arith))
