-- "Order. A record of a step file first meets 19, 20, 21", then what its call meets: each is returned when its condition is met and no
-- earlier one is, and at no other time.
use Rattle.std.specs.Prelude.{ℕ, ◌+◌, ◌-◌, Bool, true, false, List, [], ◌∷◌, ◌++◌, map, ◌≡◌, refl, leb, ltb, length}
use Rattle.std.proofs.Math.Option.{Option, none, some as just}
use borrow.Author.Tests.{leb-true, leb-false, le-ltb, lt-ltb}
use Rattle.model.specs.declared.Numbers.{Numbers}
use Rattle.model.specs.declared.Refusal.{Refusal}
use Rattle.model.specs.declared.Call.{Call}
use Rattle.model.specs.Tests.{if}
use Rattle.model.specs.Answers.{refusal_number}
use Rattle.model.specs.TurnedAway.{Ground, unless}
use Rattle.model.proofs.Cases.{either}
use Rattle.tables.specs.Layout.{Tables}
use Rattle.tables.specs.Calls.{OpenOutcome}
use Rattle.promises.specs.Order.{first_met, turned_away, call_refusals}
use Rattle.promises.specs.Refusals.{call_answers}
use Rattle.files.specs.Found.{Found, Said, Ok, Err, None, Some, run_numbers}
use Rattle.files.specs.declared.Player.{Player}
use Rattle.files.specs.Format.{byte, last_kind, body_length, file_record}
use Rattle.files.specs.Numbered.{record_refusals}
use Rattle.files.specs.Play.{place_refusals, called_in_place, turned, turn}

-- ---- their order, by document 01's numbers

abbrev numbers_of : List Ground → List ℕ
numbers_of = map (λ (g : Ground). refusal_number g.why)

-- 19 and 20 as a record is read; then 21, and 2 of an opening that is larger than the player's tables
pub reads : (file : List ℕ) (at : ℕ) → numbers_of (record_refusals file at) ≡ 19 ∷ 20 ∷ []
reads file at = refl

pub places : (most : Numbers) (p : Player) (a : Call) → numbers_of (place_refusals most p a) ≡ 21 ∷ 2 ∷ []
places most p a = refl

-- ---- each exactly when due

-- what a record is refused with; none: it is accepted, or the file has ended
abbrev pub refusal_said : Said → Option Refusal
refusal_said (Ok None) = none
refusal_said (Err why) = just why
refusal_said (Ok (Some a)) = turned_away a

-- behind 19 and 20, of a record that makes a call
abbrev pub call_due : Numbers → Player → Tables → List ℕ → Found → List Ground
call_due most p t strip (Ok None) = []
call_due most p t strip (Err why) = []
call_due most p t strip (Ok (Some a)) = place_refusals most p a ++ call_refusals (run_numbers p.opened) a t strip

-- refusals that come before those of a result
before : {A : Type 0} (told : A → Option Refusal) (away : Refusal → A) (good : A) → ((why : Refusal) → told (away why) ≡ just why)
    → (gs hs : List Ground) → told good ≡ first_met hs → told (unless away gs good) ≡ first_met (gs ++ hs)
unfolding unless first_met if
before told away good refuses [] hs h = h
before told away good refuses (g ∷ gs) hs h = go g.met (before told away good refuses gs hs h)
  where
    go : (b : Bool) → told (unless away gs good) ≡ first_met (gs ++ hs)
        → told (if b (away g.why) (unless away gs good)) ≡ if b (just g.why) (first_met (gs ++ hs))
    go true below = refuses g.why
    go false below = below

module _ (most : Numbers) (p : Player) (t : Tables) (strip : List ℕ) where
  call_told : (a : Call) → turned_away (called_in_place most p a t strip).answer ≡ first_met (call_due most p t strip (Ok (Some a)))
  unfolding called_in_place
  call_told a = before (λ (o : OpenOutcome). turned_away o.answer) _ _ (λ why. refl) (place_refusals most p a) _ (call_answers (run_numbers p.opened) a t strip)

  pub record_answers : (file : List ℕ) → let found = (file_record file p.at).found in
      refusal_said (turn most file p t strip).said ≡ first_met (record_refusals file p.at ++ call_due most p t strip found)
  unfolding turn turned file_record first_met if
  record_answers file = let at = p.at in let kind = byte file at in
      either (leb (length file) at) (λ e. rw (e, le-ltb at (length file) (leb-true (length file) at e)) refl)
      (λ e. rw (e, lt-ltb at (length file) (leb-false (length file) at e)) (either (ltb last_kind kind) (λ k. rw k refl)
      (λ k. rw k (either (ltb (length file - (at + 1)) (body_length kind)) (λ c. rw c refl) (λ c. rw c (call_told _))))))
