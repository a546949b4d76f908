-- What Point 7 says of the two calls, as theorems about their definitions.
use Rattle.std.specs.Prelude.{ℕ, ◌*◌, ◌%◌, ◌≤◌, ◌≡◌, refl, List, length, get_or, take, drop}
use Rattle.std.proofs.Common.{take_at}
use borrow.Author.Tests.{ltb-false, eqb-true, not-false}
use Rattle.model.specs.declared.Answer.TheVariants.{Refused, Done}
use Rattle.model.specs.declared.Refusal.{Refusal}
use Rattle.model.specs.TurnedAway.{Ground}
use Rattle.model.specs.Scripts.{Played, ended}
use Rattle.model.proofs.Cases.{Unmet, unless_ind, none_met, never}
use Rattle.model.proofs.Fronts.{rest_stays, length_stays}
use Rattle.shelf.specs.Planes.{entry_bytes, planes, entry_count, entries_of}
use Rattle.shelf.specs.Calls.{most_entries, most_stored, planes_refusals, entries_refusals, over, rearranged, to_planes, to_entries}

module _ (result output : List ℕ) where
  -- "Output past the result is not touched."
  pub rest_untouched : (k : ℕ) → length result ≤ k → get_or (over result output) k 0 ≡ get_or output k 0
  rest_untouched k h = rest_stays result output refl k h

  pub front : {n : ℕ} → length result ≡ n → take n (over result output) ≡ result
  front {n} e = take_at result (drop (length result) output) n e

  pub length_over : length result ≤ length output → length (over result output) ≡ length output
  length_over h = length_stays result output refl h

-- ---- both calls, by their refusals

module _ (refusals : List Ground) (result output : List ℕ) where
  -- "nothing is written"
  pub refused_unchanged : (why : Refusal) → (rearranged refusals result output).answer ≡ Refused why → (rearranged refusals result output).state ≡ output
  unfolding rearranged
  refused_unchanged why =
      unless_ind (λ (o : Played (List ℕ)). o.answer ≡ Refused why → o.state ≡ output) refusals (λ w e. refl) (λ u e. absurd (never cc))

  -- accepted only where no refusal's condition is met, and then the result is written
  pub accepted_only : (rearranged refusals result output).answer ≡ Done → Unmet refusals
  unfolding rearranged
  accepted_only = unless_ind (λ (o : Played (List ℕ)). o.answer ≡ Done → Unmet refusals) refusals (λ w e. absurd (never cc)) (λ u e. u)

  pub accepts : Unmet refusals → rearranged refusals result output ≡ ended Done (over result output)
  unfolding rearranged
  accepts = none_met (λ why. ended (Refused why) output) (ended Done (over result output)) refusals

-- ---- accepted exactly if within the limits, with room for the result

module _ (entries output : List ℕ) where
  pub record PlanesFit : Type 0 where
    pub few : length entries ≤ most_entries
    pub room : entry_bytes * length entries ≤ length output

  pub planes_accepted : (to_planes entries output).answer ≡ Done → PlanesFit
  unfolding Unmet
  planes_accepted e = let u = accepted_only (planes_refusals entries output) (planes entries) output e in
      record { few = ltb-false _ _ u.0; room = ltb-false _ _ u.1.0 }

module _ (stored output : List ℕ) where
  pub record EntriesFit : Type 0 where
    pub few : length stored ≤ most_stored
    pub even : length stored % entry_bytes ≡ 0
    pub room : entry_count stored ≤ length output

  pub entries_accepted : (to_entries stored output).answer ≡ Done → EntriesFit
  unfolding Unmet
  entries_accepted e = let u = accepted_only (entries_refusals stored output) (entries_of stored) output e in
      record { few = ltb-false _ _ u.0; even = eqb-true _ _ (not-false _ u.1.0); room = ltb-false _ _ u.1.1.0 }
