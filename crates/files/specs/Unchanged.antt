-- "A refusal returns its number and changes nothing at all", of the records of a step file: where a record's number is a
-- refusal's, be it 19, 20, 21, 2 of an opening that is too large or the call's own, everything lent is as it was, and so is
-- the run; the player's place alone may move on.
use Rattle.std.specs.Prelude.{ℕ, ◌<◌, List, ◌≡◌}
use Rattle.std.proofs.Common.{arith, ap}
use Rattle.std.proofs.Math.Path.{refl}
use Rattle.model.specs.declared.Numbers.{Numbers}
use Rattle.model.specs.declared.Refusal.{Refusal}
use Rattle.model.specs.declared.Call.{Call}
use Rattle.model.specs.declared.Answer.{Answer}
use Rattle.model.specs.declared.Answer.TheVariants.{Refused, Done, Ran, Opened, Conducted}
use Rattle.model.specs.Answers.{answer_number}
use Rattle.model.proofs.Cases.{unless_ind}
use Rattle.tables.specs.Layout.{Tables}
use Rattle.tables.specs.Calls.{OpenOutcome}
use Rattle.promises.specs.Kept.{refused_unchanged}
use Rattle.files.specs.Found.{Found, Ok, Err, None, Some, run_numbers}
use Rattle.files.specs.Numbered.{found_number}
use Rattle.files.specs.declared.Player.{Player}
use Rattle.files.specs.Play.{Turn, moved_on, place_refusals, called_in_place, answered, turned}

module _ (most : Numbers) (p : Player) (t : Tables) (strip : List ℕ) where
  pub record Unchanged (x : Turn) : Type 0 where
    pub tables : x.tables ≡ t
    pub strip_kept : x.strip ≡ strip
    pub opened : x.player.opened ≡ p.opened

  -- a call that is refused leaves what it was lent
  abbrev pub Leaves : OpenOutcome → Type 0
  Leaves o = (why : Refusal) → o.answer ≡ Refused why → (o.tables ≡ t) × (o.strip ≡ strip)

  pub in_place_leaves : (a : Call) → Leaves (called_in_place most p a t strip)
  unfolding called_in_place
  in_place_leaves a = unless_ind Leaves (place_refusals most p a) (λ w why e. (refl, refl)) (λ _. refused_unchanged (run_numbers p.opened) a t strip)

  -- an answer with a refusal's number is that refusal
  pub by_answer : (next : ℕ) (o : OpenOutcome) → Leaves o → (b : Answer) → o.answer ≡ b → 0 < answer_number b → Unchanged (answered p next o)
  by_answer next o leaves (Refused why) e h = let (a, b) = leaves why e in
      let same : moved_on p next o.answer ≡ moved_on p next (Refused why) = ap (moved_on p next) e in
      record { tables = a; strip_kept = b; opened = ap (λ (k : Player). k.opened) same }
  by_answer next o leaves Done e h = absurd (omega arith)
  by_answer next o leaves (Ran k) e h = absurd (omega arith)
  by_answer next o leaves (Opened N) e h = absurd (omega arith)
  by_answer next o leaves (Conducted k m) e h = absurd (omega arith)

  -- "A record of a step file first meets 19, 20": these are said as they are read
  pub by_found : (next : ℕ) (f : Found) → 0 < found_number f → (turned most p t strip next f).number ≡ found_number f
  unfolding turned
  by_found next (Ok None) h = absurd (omega arith)
  by_found next (Err why) h = refl
  by_found next (Ok (Some a)) h = absurd (omega arith)
