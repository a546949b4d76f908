-- "A refusal returns its number and changes nothing at all", of the records of a step file: where a record's number is a
-- refusal's, be it 19, 20, 21, 2 of an opening that is too large or the call's own, everything lent is as it was, and so is
-- the run; the player's place alone may move on.
use Rattle.std.specs.Prelude.{ℕ, ◌<◌, List, ◌≡◌}
use Rattle.std.proofs.Common.{arith, sym, ◌∙◌, subst}
use Rattle.std.proofs.Math.Path.{refl}
use Rattle.model.specs.declared.Numbers.{Numbers}
use Rattle.tables.specs.Layout.{Tables}
use Rattle.files.specs.Found.{Found, Ok, Err, None, Some}
use Rattle.files.specs.Format.{file_record}
use Rattle.files.specs.Numbered.{record_number}
use Rattle.files.proofs.FoundLaws.{told_number}
use Rattle.files.specs.declared.Player.{Player}
use Rattle.files.specs.Play.{called_in_place, turned, turn}
use Rattle.files.specs.Unchanged.{Unchanged, by_answer, by_found, in_place_leaves}

module _ (most : Numbers) (p : Player) (t : Tables) (strip : List ℕ) where
  pub read_refusal_said : (file : List ℕ) → 0 < record_number file p.at → (turn most file p t strip).number ≡ record_number file p.at
  unfolding turn
  read_refusal_said file h =
      let r = file_record file p.at in
      let e = told_number file p.at {r = r} refl in by_found most p t strip r.next r.found (subst (λ (k : ℕ). 0 < k) (sym e) h) ∙ e

  found_unchanged : (next : ℕ) (f : Found) → 0 < (turned most p t strip next f).number → Unchanged most p t strip (turned most p t strip next f)
  unfolding turned
  found_unchanged next (Ok None) h = absurd (omega arith)
  found_unchanged next (Err why) h = record { tables = refl; strip_kept = refl; opened = refl }
  found_unchanged next (Ok (Some a)) h = let o = called_in_place most p a t strip in
      by_answer most p t strip next o (in_place_leaves most p t strip a) o.answer refl h

  pub refused_turn_unchanged : (file : List ℕ) → 0 < (turn most file p t strip).number → Unchanged most p t strip (turn most file p t strip)
  unfolding turn
  refused_turn_unchanged file h = let r = file_record file p.at in found_unchanged r.next r.found h
