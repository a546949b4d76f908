-- Document 02, Point 6: old step files and new ones. A file some of whose old openings and hears are written in their new form is played
-- to the same report, and leaves the same of everything lent.
use Prim.Native.Nat.{ℕ, zero, suc}
use Rattle.std.proofs.Common.{arith, sym, ◌∙◌, length-append}
use Rattle.std.specs.Prelude.{◌≡◌, length}
use Rattle.std.proofs.Math.Bool.{true, false}
use mathlib.Core.List.{List, [], ◌++◌, append_assoc}
use Rattle.std.proofs.Math.Path.{refl, ap, ap₂}
use Rattle.model.specs.declared.Numbers.{Numbers}
use Rattle.model.specs.Tests.{if}
use Rattle.model.proofs.Cases.{either}
use Rattle.tables.specs.Layout.{Tables}
use Rattle.files.specs.Format.{file_record}
use Rattle.files.specs.Forms.{widened, opening_front, hear_front, by_body, opening_forms, hear_forms}
use Rattle.files.specs.Play.{Turn, turn, goes_on, play, begun}
use Rattle.files.specs.TurnForms.{SameTurn}
use Rattle.files.proofs.TurnForms.{same_turns}
use Rattle.files.specs.Reported.{said_line, line_on, lines, ending, fresh, whole, report}
use Rattle.files.specs.Ends.{whole_ends}
use Rattle.files.specs.Renewed.{Renewed, SameSession, Standing, Together, as_it_is, behind, ending_same, found_at, hear, kept, new_hear_long}
use Rattle.files.specs.Renewed.{new_opening_long, no_shorter, nothing_added, one_by_one, opening, place_behind, read_at_rest, stays}

-- they are read alike
found_alike : {l l' : List ℕ} → Renewed l l' → found_at l ≡ found_at l'
unfolding found_at
found_alike (as_it_is rest) = refl
found_alike (kept kind body rest rest' h r) = by_body kind body rest h ∙ sym (by_body kind body rest' h)
found_alike (opening body rest rest' h r) =
    by_body 0 body rest h ∙ sym (opening_forms body) ∙ sym (by_body 8 (widened opening_front body) rest' (new_opening_long body h))
found_alike (hear body rest rest' h r) =
    by_body 4 body rest h ∙ sym (hear_forms body) ∙ sym (by_body 9 (widened hear_front body) rest' (new_hear_long body h))

module _ (most : Numbers) (old new : List ℕ) (t : Tables) (strip : List ℕ) where
  module _ (x y : Turn) (pair : Together most old new t strip x y) (more : goes_on x.said ≡ true) where
    abbrev one : Turn
    one = turn most old x.player x.tables x.strip

    abbrev other : Turn
    other = turn most new y.player y.tables y.strip

    found_same : (file_record old x.player.at).found ≡ (file_record new y.player.at).found
    found_same = let s = pair.standing more in
        rw (s.there, s.there', s.at, s.at') (read_at_rest s.before s.rest ∙ found_alike s.renewed ∙ sym (read_at_rest s.before' s.rest'))

    turn_same : SameTurn one other
    turn_same = let e = pair.same in same_turns most old new _ _ _ _ _ _ e.opened e.tables e.strip found_same

    stand_behind : goes_on one.said ≡ true → Standing most old new t strip one other
    stand_behind h =
        let s = pair.standing more in
        let (made, at) = place_behind most old new t strip old s.before s.rest x.player x.tables x.strip s.there s.at h in
        let h' = rw turn_same.said at h in
        let (made', at') = place_behind most old new t strip new s.before' s.rest' y.player y.tables y.strip s.there' s.at' h' in
        let b = behind s.renewed made in
        record {
          before = s.before ++ b.front;
          before' = s.before' ++ b.front';
          rest = b.rest;
          rest' = b.rest';
          there = s.there ∙ ap (λ (l : List ℕ). s.before ++ l) b.old ∙ sym (append_assoc s.before b.front b.rest);
          there' = s.there' ∙ ap (λ (l : List ℕ). s.before' ++ l) b.new ∙ sym (append_assoc s.before' b.front' b.rest');
          at = let l = length-append s.before b.front in let m = b.long in omega arith;
          at' = let l = length-append s.before' b.front' in let m = b.long' in omega arith;
          renewed = b.more;
        }

    go_on : Together most old new t strip one other
    go_on = record { same = turn_same; standing = stand_behind }

  module _ (renewed : Renewed old new) where
    abbrev of_old : ℕ → Turn
    of_old k = play k most old (begun fresh t strip)

    abbrev of_new : ℕ → Turn
    of_new k = play k most new (begun fresh t strip)

    together : (k : ℕ) → Together most old new t strip (of_old k) (of_new k)
    unfolding play
    together zero = record {
      same = record { said = refl; number = refl; values = refl; opened = refl; tables = refl; strip = refl };
      standing = λ _. record { before = []; before' = []; rest = old; rest' = new; there = refl; there' = refl; at = refl; at' = refl; renewed = renewed };
    }
    together (suc k) = let pair = together k in
        (one_by_one most old new t strip) (goes_on (of_old k).said) (goes_on (of_new k).said) (ap goes_on pair.same.said)
        (go_on (of_old k) (of_new k) pair) pair

    lines_same : (k : ℕ) → lines k most old (begun fresh t strip) ≡ lines k most new (begun fresh t strip)
    unfolding lines line_on play
    lines_same zero = refl
    lines_same (suc k) = ap₂ ◌++◌ (lines_same k)
        (ap₂ (λ (s s' : _). if (goes_on s) (said_line (suc k) s') []) (together k).same.said (together (suc k)).same.said)

    -- the old file has ended by then, or it is empty; the new one has some turns more in which nothing happens
    pub same_session : SameSession most old new t strip renewed
    unfolding report whole
    same_session = either (goes_on (of_old (length old)).said) empty ended
      where
        empty : goes_on (of_old (length old)).said ≡ true → SameSession most old new t strip renewed
        empty h = let e = nothing_added renewed (whole_ends most old t strip h) in record {
          reports = ap (λ (l : List ℕ). report most l t strip) e;
          tables = ap (λ (l : List ℕ). (whole most l t strip).tables) e;
          strips = ap (λ (l : List ℕ). (whole most l t strip).strip) e;
        }

        ended : goes_on (of_old (length old)).said ≡ false → SameSession most old new t strip renewed
        ended h =
            let k = length old in
            let e = (together k).same in
            let still = stays most new (begun fresh t strip) k (ap goes_on (sym e.said) ∙ h) (length new) (no_shorter renewed) in
            record {
              reports = ap₂ ◌++◌ (lines_same k ∙ sym still.1) (ending_same (of_old k) (of_new k) e ∙ sym (ap ending still.0));
              tables = e.tables ∙ sym (ap (λ (x : Turn). x.tables) still.0);
              strips = e.strip ∙ sym (ap (λ (x : Turn). x.strip) still.0);
            }
