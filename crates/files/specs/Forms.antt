-- Document 02, Point 6: "Show that each old record and its new form give the same step." What a record is read as goes by its kind
-- and by the bytes behind that alone. An opening of kind 0 and its form of kind 8, a hear of kind 4 and its form of kind 9 are read as
-- the same call, for every body and wherever they stand; where the one is cut, the other is.
use Prim.Native.Nat.{ℕ, zero, suc, ◌+◌, ◌-◌, ◌≤◌, ◌<◌}
use native.Mathlib.Omega.{arith}
use Rattle.std.specs.Prelude.{Bool, List, [], ◌∷◌, ◌++◌, ◌≡◌, ltb, eqb}
use Rattle.std.proofs.Math.Bool.{false}
use Rattle.std.proofs.Math.Path.{refl, ap}
use Rattle.std.proofs.Common.{◌∙◌}
use Rattle.std.proofs.Math.Dec.{leb, leb-suc-suc}
use Rattle.std.proofs.Math.ListN.{length, get_or, length-append, get_or-append}
use Rattle.std.proofs.Math.Seq.{get_or-append_seam, get_or-append-add}
use borrow.Author.Tests.{lt-leb, le-ltb, ltb-false, eqb-false}
use Rattle.model.specs.declared.Refusal.TheVariants.{UnknownKind, CutRecord}
use Rattle.model.specs.declared.Call.TheVariants.{Open}
use Rattle.model.specs.Tests.{if}
use Rattle.model.proofs.Cases.{either, if-ind}
use Rattle.files.specs.Found.{Found, Ok, Err, Some}
use Rattle.files.specs.Format.{number, last_kind, step_kind, is_wide, slot_bytes, step_length, body_length, plan_at, message_at, act_at}
use Rattle.files.specs.Format.{step_at, call_at, file_record}

-- the new form of the bytes behind a kind: a second byte of the slot, 0, behind the first so many
unfoldable pub widened : ℕ → List ℕ → List ℕ
widened zero rest = 0 ∷ rest
widened (suc k) [] = []
widened (suc k) (x ∷ rest) = x ∷ widened k rest

-- the bytes up to the first of the slots, or of the slot: "n, f, slots", "receiver, sender, sort, slot"
abbrev pub opening_front : ℕ
opening_front = 3

abbrev pub hear_front : ℕ
hear_front = 4

abbrev pub new_opening : List ℕ → List ℕ
new_opening rest = 8 ∷ widened opening_front rest

abbrev pub new_hear : List ℕ → List ℕ
new_hear rest = 9 ∷ widened hear_front rest

-- ---- a record, wherever it stands

-- what a kind and the bytes behind it are read as
unfoldable pub found_in : ℕ → List ℕ → Found
found_in kind rest =
    if (ltb last_kind kind) (Err UnknownKind)
    (if (ltb (length rest) (body_length kind)) (Err CutRecord) (Ok (Some (call_at kind rest 0))))

-- the call of a step goes by the bytes of its body: these stand in a file from a place on
module _ (file body : List ℕ) (i m : ℕ) (there : (j : ℕ) → j < m → get_or file (i + j) 0 ≡ get_or body j 0) where
  number_there : (k j : ℕ) → j + k ≤ m → number k file (i + j) ≡ number k body j
  unfolding number
  number_there zero j h = refl
  number_there (suc k) j h =
      let on : number k file (i + j + 1) ≡ number k file (i + (j + 1)) = ap (number k file) (omega arith) in
      rw (there j (omega arith), on, number_there k (j + 1) (omega arith))

  first_there : 1 ≤ m → get_or file i 0 ≡ get_or body 0 0
  first_there h = ap (λ (k : ℕ). get_or file k 0) (let e : i ≡ i + 0 = omega arith in e) ∙ there 0 h

  plan_there : (wide : Bool) → slot_bytes wide + 7 ≤ m → plan_at wide file i ≡ plan_at wide body 0
  plan_there wide h = let w = slot_bytes wide in
      let a : i + 2 + w ≡ i + (2 + w) = omega arith in
      let b : i + 3 + w ≡ i + (3 + w) = omega arith in
      let c : i + 5 + w ≡ i + (5 + w) = omega arith in
      rw (
        first_there (omega arith),
        there 1 (omega arith),
        number_there w 2 (omega arith),
        a,
        there (2 + w) (omega arith),
        b,
        number_there 2 (3 + w) (omega arith),
        c,
        number_there 2 (5 + w) (omega arith),
      )

  message_there : (wide : Bool) → slot_bytes wide + 4 ≤ m → message_at wide file (i + 1) ≡ message_at wide body 1
  message_there wide h = let w = slot_bytes wide in
      let a : i + 1 + 1 ≡ i + 2 = omega arith in
      let b : i + 1 + 2 ≡ i + 3 = omega arith in
      let c : i + 3 + w ≡ i + (3 + w) = omega arith in
      rw (there 1 (omega arith), a, there 2 (omega arith), b, number_there w 3 (omega arith), c, there (3 + w) (omega arith))

  step_there : (step : ℕ) (wide : Bool) → step ≤ 7 → step_length step wide ≤ m → step_at step wide file i ≡ step_at step wide body 0
  unfolding step_at act_at step_length if
  step_there zero wide few h = ap Open (plan_there wide h)
  step_there (suc zero) wide few h = rw (first_there (omega arith), number_there 8 1 (omega arith))
  step_there (suc (suc zero)) wide few h = rw (first_there (omega arith), number_there 8 1 (omega arith))
  step_there (suc (suc (suc zero))) wide few h = rw (first_there (omega arith))
  step_there (suc (suc (suc (suc zero)))) wide few h = rw (first_there (omega arith), message_there wide h)
  step_there (suc (suc (suc (suc (suc zero))))) wide few h = rw (first_there (omega arith))
  step_there (suc (suc (suc (suc (suc (suc zero)))))) wide few h = rw (first_there (omega arith))
  step_there (suc (suc (suc (suc (suc (suc (suc zero))))))) wide few h = rw (first_there (omega arith))
  step_there (suc (suc (suc (suc (suc (suc (suc (suc step)))))))) wide few h = absurd (omega arith)

-- a known kind is a form of a step
pub step_few : (kind : ℕ) → kind ≤ last_kind → step_kind kind ≤ 7
unfolding step_kind
step_few kind h = if-ind (λ (k : ℕ). k ≤ 7) (eqb kind 8) (λ _. omega arith)
    (λ a. if-ind (λ (k : ℕ). k ≤ 7) (eqb kind 9) (λ _. omega arith) (λ b. omega (arith, eqb-false kind 8 a, eqb-false kind 9 b)))

module _ (before : List ℕ) where
  pub read_there : (kind : ℕ) (rest : List ℕ) → (file_record (before ++ (kind ∷ rest)) (length before)).found ≡ found_in kind rest
  unfolding file_record found_in if
  read_there kind rest =
      let file = before ++ (kind ∷ rest) in
      let at = length before in
      let m = body_length kind in
      let long : length file ≡ at + suc (length rest) = length-append before (kind ∷ rest) in
      let more : leb (length file) at ≡ false = lt-leb (length file) at (omega arith) in
      let left : length file - (at + 1) ≡ length rest = omega arith in
      rw (more, left, get_or-append_seam before kind rest 0) (either (ltb last_kind kind) (λ e. rw e) (λ e. rw e (either (ltb (length rest) m) (λ g. rw g)
      (λ g. rw (g, step_there file rest (at + 1) m behind (step_kind kind) (is_wide kind) (step_few kind (ltb-false last_kind kind e)) (omega arith))))))
    where
      behind : (j : ℕ) → j < body_length kind → get_or (before ++ (kind ∷ rest)) (length before + 1 + j) 0 ≡ get_or rest j 0
      behind j _ = ap (λ (k : ℕ). get_or (before ++ (kind ∷ rest)) k 0) (let e : length before + 1 + j ≡ length before + suc j = omega arith in e)
          ∙ get_or-append-add before (kind ∷ rest) (suc j) 0

-- what is behind a whole record does not matter
pub by_body : (kind : ℕ) (body rest : List ℕ) → length body ≡ body_length kind → found_in kind (body ++ rest) ≡ found_in kind body
unfolding found_in if
by_body kind body rest h =
    let m = body_length kind in
    let more = length-append body rest in
    let whole : ltb (length body) m ≡ false = le-ltb (length body) m (omega arith) in
    let longer : ltb (length (body ++ rest)) m ≡ false = le-ltb (length (body ++ rest)) m (omega arith) in
    either (ltb last_kind kind) (λ e. rw e) (λ e. rw (
      e,
      whole,
      longer,
      step_there (body ++ rest) body 0 m inside (step_kind kind) (is_wide kind)
          (step_few kind (ltb-false last_kind kind e)) (omega arith),
    ))
  where
    inside : (j : ℕ) → j < body_length kind → get_or (body ++ rest) (0 + j) 0 ≡ get_or body j 0
    inside j l = ap (λ (k : ℕ). get_or (body ++ rest) k 0) (let e : 0 + j ≡ j = omega arith in e) ∙ get_or-append body rest 0 j (omega arith)

-- ---- old and new form

pub opening_forms : (rest : List ℕ) → found_in 8 (widened opening_front rest) ≡ found_in 0 rest
unfolding found_in widened step_kind is_wide step_length step_at number if
opening_forms [] = refl
opening_forms (n ∷ []) = refl
opening_forms (n ∷ f ∷ []) = refl
opening_forms (n ∷ f ∷ slots ∷ rest) = rw (leb-suc-suc (suc (suc (suc (suc (length rest))))) 8)

pub hear_forms : (rest : List ℕ) → found_in 9 (widened hear_front rest) ≡ found_in 4 rest
unfolding found_in widened step_kind is_wide step_length step_at act_at number if
hear_forms [] = refl
hear_forms (r ∷ []) = refl
hear_forms (r ∷ d ∷ []) = refl
hear_forms (r ∷ d ∷ so ∷ []) = refl
hear_forms (r ∷ d ∷ so ∷ slot ∷ rest) = rw (leb-suc-suc (suc (suc (suc (suc (suc (length rest)))))) 5)
