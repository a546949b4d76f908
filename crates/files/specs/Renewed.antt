-- Document 02, Point 6: old step files and new ones. A file some of whose old openings and hears are written in their new form is played
-- to the same report, and leaves the same of everything lent.
use Prim.Native.Nat.{ℕ, zero, suc, ◌+◌, ◌-◌, ◌≤◌}
use Rattle.std.proofs.Common.{arith, sym, ◌∙◌, subst, length-append, take-append-drop, length-take-le, le-leb, ltb-false}
use Rattle.std.proofs.Math.Decide.{ℕ_discrete}
use Rattle.std.specs.Prelude.{Bool, ◌≡◌, leb, ltb, length, take, drop}
use Rattle.std.proofs.Math.Bool.{true, false}
use mathlib.Core.List.{List, [], ◌∷◌, ◌++◌, append-nil}
use Rattle.std.proofs.Math.Path.{refl, ap, ap₂}
use Rattle.std.proofs.Math.Seq.{get_or-append_seam}
use Rattle.std.proofs.lemmas.Bool.{lt-leb}
use Rattle.model.specs.declared.Numbers.{Numbers}
use Rattle.model.specs.Tests.{if}
use Rattle.model.proofs.Branches.{if-false}
use Rattle.model.proofs.Cases.{clash, either, if-ind}
use Rattle.tables.specs.Layout.{Tables}
use Rattle.files.specs.Found.{Found, Ok, Err, None, Some}
use Rattle.files.specs.Format.{last_kind, step_kind, is_wide, step_length, body_length, file_record}
use Rattle.files.specs.Forms.{widened, opening_front, hear_front, new_opening, new_hear, found_in, read_there}
use Rattle.files.specs.declared.Player.{Player}
use Rattle.files.specs.Play.{Turn, turned, turn, goes_on, play, begun}
use Rattle.files.specs.TurnForms.{SameTurn}
use Rattle.files.specs.Reported.{line_on, lines, ending, fresh, whole, report}

-- record by record; the rest may stay as it is
pub data Renewed : List ℕ → List ℕ → Type 0 where
  as_it_is : (rest : List ℕ) → Renewed rest rest
  kept : (kind : ℕ) (body rest rest' : List ℕ) → length body ≡ body_length kind → Renewed rest rest'
      → Renewed (kind ∷ (body ++ rest)) (kind ∷ (body ++ rest'))
  opening : (body rest rest' : List ℕ) → length body ≡ body_length 0 → Renewed rest rest' → Renewed (0 ∷ (body ++ rest)) (new_opening body ++ rest')
  hear : (body rest rest' : List ℕ) → length body ≡ body_length 4 → Renewed rest rest' → Renewed (4 ∷ (body ++ rest)) (new_hear body ++ rest')

-- ---- what stands at the start of some bytes

unfoldable pub found_at : List ℕ → Found
found_at [] = Ok None
found_at (kind ∷ rest) = found_in kind rest

unfoldable pub record_length : List ℕ → ℕ
record_length [] = 0
record_length (kind ∷ rest) = suc (body_length kind)

abbrev pub is_made : Found → Bool
is_made (Ok None) = false
is_made (Err why) = false
is_made (Ok (Some a)) = true

pub read_at_rest : (before l : List ℕ) → (file_record (before ++ l) (length before)).found ≡ found_at l
unfolding found_at file_record if
read_at_rest before [] = let long = length-append before [] in rw (le-leb (length (before ++ [])) (length before) (omega arith))
read_at_rest before (kind ∷ rest) = read_there before kind rest

-- a record that makes a call is whole
made_whole : (kind : ℕ) (rest : List ℕ) → is_made (found_in kind rest) ≡ true → body_length kind ≤ length rest
unfolding found_in
made_whole kind rest = if-ind (λ (f : Found). is_made f ≡ true → body_length kind ≤ length rest) (ltb last_kind kind) (λ _ h. clash h)
    (λ _. if-ind (λ (f : Found). is_made f ≡ true → body_length kind ≤ length rest) (ltb (length rest) (body_length kind)) (λ _ h. clash h)
    (λ e _. ltb-false (length rest) (body_length kind) e))

next_at_rest : (before l : List ℕ) → is_made (found_at l) ≡ true → (file_record (before ++ l) (length before)).next ≡ length before + record_length l
unfolding found_at found_in record_length file_record if
next_at_rest before [] = λ h. clash h
next_at_rest before (kind ∷ rest) =
    let file = before ++ (kind ∷ rest) in
    let long = length-append before (kind ∷ rest) in
    let more : leb (length file) (length before) ≡ false = lt-leb (length file) (length before) (omega arith) in
    let left : length file - (length before + 1) ≡ length rest = omega arith in
    rw (more, left, get_or-append_seam before kind rest 0)
    (either (ltb last_kind kind) (λ e. rw e (λ h. clash h)) (λ e. rw e
    (either (ltb (length rest) (body_length kind)) (λ g. rw g (λ h. clash h)) (λ g. rw g (λ _. omega arith)))))

-- ---- old and new bytes, record by record

length_widened : (k : ℕ) (body : List ℕ) → k ≤ length body → length (widened k body) ≡ suc (length body)
unfolding widened
length_widened zero body h = refl
length_widened (suc k) [] h = absurd (omega arith)
length_widened (suc k) (x ∷ body) h = ap suc (length_widened k body (omega arith))

pub new_opening_long : (body : List ℕ) → length body ≡ body_length 0 → length (widened opening_front body) ≡ body_length 8
unfolding step_kind is_wide step_length if
new_opening_long body h = let e = length_widened opening_front body (omega arith) in omega arith

pub new_hear_long : (body : List ℕ) → length body ≡ body_length 4 → length (widened hear_front body) ≡ body_length 9
unfolding step_kind is_wide step_length if
new_hear_long body h = let e = length_widened hear_front body (omega arith) in omega arith

-- and behind a whole record the rest is such a file again
pub record Behind (l l' : List ℕ) : Type 0 where
  pub front : List ℕ
  pub front' : List ℕ
  pub rest : List ℕ
  pub rest' : List ℕ
  pub old : l ≡ front ++ rest
  pub new : l' ≡ front' ++ rest'
  pub long : length front ≡ record_length l
  pub long' : length front' ≡ record_length l'
  pub more : Renewed rest rest'

parted : (front front' rest rest' : List ℕ) → length front ≡ record_length (front ++ rest) → length front' ≡ record_length (front' ++ rest')
    → Renewed rest rest' → Behind (front ++ rest) (front' ++ rest')
parted front front' rest rest' long long' more = record {
  front = front;
  front' = front';
  rest = rest;
  rest' = rest';
  old = refl;
  new = refl;
  long = long;
  long' = long';
  more = more;
}

pub behind : {l l' : List ℕ} → Renewed l l' → is_made (found_at l) ≡ true → Behind l l'
unfolding found_at record_length
behind (as_it_is []) h = clash h
behind (as_it_is (kind ∷ rest)) h =
    let m = body_length kind in
    let long = ap suc (length-take-le m rest (made_whole kind rest h)) in
    let all = ap (λ (l : List ℕ). kind ∷ l) (take-append-drop m rest) in
    subst (λ (l : List ℕ). Behind l l) all (parted (kind ∷ take m rest) (kind ∷ take m rest) (drop m rest) (drop m rest) long long (as_it_is (drop m rest)))
behind (kept kind body rest rest' long r) h = parted (kind ∷ body) (kind ∷ body) rest rest' (ap suc long) (ap suc long) r
behind (opening body rest rest' long r) h = parted (0 ∷ body) (new_opening body) rest rest' (ap suc long) (ap suc (new_opening_long body long)) r
behind (hear body rest rest' long r) h = parted (4 ∷ body) (new_hear body) rest rest' (ap suc long) (ap suc (new_hear_long body long)) r

-- the new file is as long, or longer
wider : (k : ℕ) (body rest rest' : List ℕ) → k ≤ length body → length rest ≤ length rest' → length (body ++ rest) ≤ length (widened k body ++ rest')
wider k body rest rest' h l =
    let a = length-append body rest in let b = length-append (widened k body) rest' in let c = length_widened k body h in omega arith

pub no_shorter : {l l' : List ℕ} → Renewed l l' → length l ≤ length l'
unfolding step_kind is_wide step_length if
no_shorter (as_it_is rest) = omega arith
no_shorter (kept kind body rest rest' h r) =
    let a = length-append body rest in let b = length-append body rest' in let c = no_shorter r in omega arith
no_shorter (opening body rest rest' h r) = let l = wider opening_front body rest rest' (omega arith) (no_shorter r) in omega arith
no_shorter (hear body rest rest' h r) = let l = wider hear_front body rest rest' (omega arith) (no_shorter r) in omega arith

pub nothing_added : {l l' : List ℕ} → Renewed l l' → length l ≡ 0 → l ≡ l'
nothing_added (as_it_is rest) h = refl
nothing_added (kept kind body rest rest' long r) h = absurd (omega arith)
nothing_added (opening body rest rest' long r) h = absurd (omega arith)
nothing_added (hear body rest rest' long r) h = absurd (omega arith)

-- ---- both files played, turn by turn

-- a turn of a player that has stopped
one_more : (most : Numbers) (file : List ℕ) (x : Turn) (m k : ℕ) → play m most file x ≡ play k most file x → lines m most file x ≡ lines k most file x
    → goes_on (play k most file x).said ≡ false → (play (suc m) most file x ≡ play k most file x) × (lines (suc m) most file x ≡ lines k most file x)
unfolding play lines line_on
one_more most file x m k a b h =
    let stopped = ap (λ (y : Turn). goes_on y.said) a ∙ h in
    (if-false _ _ stopped ∙ a, ap₂ ◌++◌ b (if-false _ _ stopped) ∙ append-nil (lines k most file x))

-- once playing has stopped, further turns change nothing
pub stays : (most : Numbers) (file : List ℕ) (x : Turn) (k : ℕ) → goes_on (play k most file x).said ≡ false → (m : ℕ) → k ≤ m
    → (play m most file x ≡ play k most file x) × (lines m most file x ≡ lines k most file x)
stays most file x k h zero l = let e : k ≡ 0 = omega arith in
    (ap (λ (j : ℕ). play j most file x) (sym e), ap (λ (j : ℕ). lines j most file x) (sym e))
stays most file x k h (suc m) l = go (ℕ_discrete k (suc m)) (stays most file x k h m)
  where
    Still : ℕ → Type 0
    Still m = (play m most file x ≡ play k most file x) × (lines m most file x ≡ lines k most file x)

    go : Dec (k ≡ suc m) → (k ≤ m → Still m) → Still (suc m)
    go (yes e) so_far = (ap (λ (j : ℕ). play j most file x) (sym e), ap (λ (j : ℕ). lines j most file x) (sym e))
    go (no apart) so_far = let (a, b) = so_far (omega arith) in one_more most file x m k a b h

-- the lines at the end
pub ending_same : (x y : Turn) → SameTurn x y → ending x ≡ ending y
ending_same x y e = rw (e.opened, e.tables)

module _ (most : Numbers) (old new : List ℕ) (t : Tables) (strip : List ℕ) where
  -- where the two players stand: before bytes of which the ones are the others renewed
  pub record Standing (x y : Turn) : Type 0 where
    pub before : List ℕ
    pub before' : List ℕ
    pub rest : List ℕ
    pub rest' : List ℕ
    pub there : old ≡ before ++ rest
    pub there' : new ≡ before' ++ rest'
    pub at : x.player.at ≡ length before
    pub at' : y.player.at ≡ length before'
    pub renewed : Renewed rest rest'

  pub record Together (x y : Turn) : Type 0 where
    pub same : SameTurn x y
    pub standing : goes_on x.said ≡ true → Standing x y

  -- playing goes on behind a call, at the place behind its record
  made_on : (p : Player) (u : Tables) (st : List ℕ) (next : ℕ) (f : Found) → goes_on (turned most p u st next f).said ≡ true
      → (is_made f ≡ true) × ((turned most p u st next f).player.at ≡ next)
  unfolding turned
  made_on p u st next (Ok None) h = clash h
  made_on p u st next (Err why) h = clash h
  made_on p u st next (Ok (Some a)) h = (refl, refl)

  -- where a player stands behind a record
  pub place_behind : (file before rest : List ℕ) (p : Player) (u : Tables) (st : List ℕ) → file ≡ before ++ rest → p.at ≡ length before
      → goes_on (turn most file p u st).said ≡ true
      → (is_made (found_at rest) ≡ true) × ((turn most file p u st).player.at ≡ length before + record_length rest)
  unfolding turn
  place_behind file before rest p u st there at h =
      let r = file_record file p.at in
      let here : r ≡ file_record (before ++ rest) (length before) = ap₂ file_record there at in
      let (made, next) = made_on p u st r.next r.found h in
      let found = rw (here, read_at_rest before rest) at made in
      (found, next ∙ rw here (next_at_rest before rest found))

  module _ (x y : Turn) (pair : Together x y) (more : goes_on x.said ≡ true) where
    abbrev one : Turn
    one = turn most old x.player x.tables x.strip

    abbrev other : Turn
    other = turn most new y.player y.tables y.strip

  -- both go on, or neither does
  pub one_by_one : (b b' : Bool) {x y x' y' : Turn} → b ≡ b' → (b ≡ true → Together x' y') → Together x y → Together (if b x' x) (if b' y' y)
  unfolding if
  one_by_one true true e more pair = more refl
  one_by_one true false e more pair = clash (sym e)
  one_by_one false true e more pair = clash e
  one_by_one false false e more pair = pair

  module _ (renewed : Renewed old new) where
    abbrev of_old : ℕ → Turn
    of_old k = play k most old (begun fresh t strip)

    abbrev of_new : ℕ → Turn
    of_new k = play k most new (begun fresh t strip)

    -- everything is the same at the end: the report, and what is left of everything lent
    pub record SameSession : Type 0 where
      pub reports : report most old t strip ≡ report most new t strip
      pub tables : (whole most old t strip).tables ≡ (whole most new t strip).tables
      pub strips : (whole most old t strip).strip ≡ (whole most new t strip).strip
