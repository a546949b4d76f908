-- A record that was read, refused or made a call is the turn of the definitions.
use Rattle.std.specs.Prelude.{ℕ, true, false, List, ◌≡◌}
use Rattle.std.proofs.Math.Path.{refl, sym, ap}
use Rattle.std.proofs.Common.{◌∙◌}
use Rattle.model.specs.declared.Numbers.{Numbers}
use Rattle.model.specs.declared.Refusal.{Refusal}
use Rattle.model.specs.declared.Refusal.TheVariants.{ShortTable, OutOfPlace}
use Rattle.model.specs.declared.Call.{Call}
use Rattle.model.specs.declared.Answer.{Answer}
use Rattle.model.specs.declared.Answer.TheVariants.{Refused}
use Rattle.model.proofs.Branches.{when_met, when_missed, none_left}
use Rattle.tables.specs.Layout.{Tables}
use Rattle.tables.specs.Calls.{OpenOutcome, open_outcome, called}
use Rattle.files.specs.Found.{Found, Ok, Err, None, Some, is_opened, run_numbers}
use Rattle.files.specs.declared.Read.{Read}
use Rattle.files.specs.declared.Player.{Player}
use Rattle.files.specs.Format.{file_record}
use Rattle.files.specs.Play.{Turn, turn_of, out_of_place, too_large, moved_on, called_in_place, answered, turned, turn}

-- a call that is out of place, one that is too large, and one that is performed
module _ (most : Numbers) (p : Player) (a : Call) (t : Tables) (strip : List ℕ) where
  pub on_misplaced : out_of_place (is_opened p.opened) a ≡ true → open_outcome (Refused OutOfPlace) t strip ≡ called_in_place most p a t strip
  unfolding called_in_place
  on_misplaced h = sym (when_met _ _ _ _ h)

  pub on_large : out_of_place (is_opened p.opened) a ≡ false → too_large most a ≡ true
      → open_outcome (Refused ShortTable) t strip ≡ called_in_place most p a t strip
  unfolding called_in_place
  on_large h l = sym (when_missed _ _ _ _ h ∙ when_met _ _ _ _ l)

  pub on_call : {o : OpenOutcome} → out_of_place (is_opened p.opened) a ≡ false → too_large most a ≡ false → o ≡ called (run_numbers p.opened) a t strip
      → o ≡ called_in_place most p a t strip
  unfolding called_in_place
  on_call h l q = q ∙ sym (when_missed _ _ _ _ h ∙ when_missed _ _ _ _ l ∙ none_left _ _)

-- what was found at the place
module _ (most : Numbers) (file : List ℕ) (p : Player) (t : Tables) (strip : List ℕ) {r : Read} (read : r ≡ file_record file p.at) where
  found : {x : Turn} {f : Found} → r.found ≡ f → x ≡ turned most p t strip r.next f → x ≡ turn most file p t strip
  unfolding turn
  found e q = q ∙ ap (turned most p t strip r.next) (sym e) ∙ ap (λ (r : Read). turned most p t strip r.next r.found) read

  pub on_end : r.found ≡ Ok None → turn_of (Ok None) p t strip ≡ turn most file p t strip
  unfolding turned
  on_end e = found e refl

  pub on_stop : {why : Refusal} → r.found ≡ Err why → turn_of (Err why) p t strip ≡ turn most file p t strip
  unfolding turned
  on_stop e = found e refl

  pub on_made : {a : Call} {answer : Answer} {next : Player} {t' : Tables} {strip' : List ℕ} → r.found ≡ Ok (Some a)
      → open_outcome answer t' strip' ≡ called_in_place most p a t strip → next ≡ moved_on p r.next answer
      → turn_of (Ok (Some answer)) next t' strip' ≡ turn most file p t strip
  unfolding turned
  on_made {a} {answer} {next} {t'} {strip'} e q m =
      found e (ap (λ (k : Player). turn_of (Ok (Some answer)) k t' strip') m ∙ ap (answered p r.next) q)

-- where the player stands behind the answer that the code has matched
pub moved_told : (p : Player) (next : ℕ) {a : Answer} {q : Player} (b : Answer) → a ≡ b → q ≡ moved_on p next b → q ≡ moved_on p next a
moved_told p next b e q = q ∙ ap (moved_on p next) (sym e)
