-- What a read finds has document 01's number and values of its place in the file.
use Prim.Native.Nat.{ℕ, ◌+◌, ◌-◌}
use Rattle.std.specs.Prelude.{List, ◌≡◌, refl, leb, ltb, length}
use Rattle.std.proofs.Common.{◌∙◌, ap}
use borrow.Author.Tests.{leb-true, leb-false, ltb-false, le-ltb, lt-ltb}
use Rattle.model.specs.Tests.{if}
use Rattle.model.specs.TurnedAway.{unless}
use Rattle.model.proofs.Cases.{either}
use Rattle.files.specs.declared.Read.{Read}
use Rattle.files.specs.Format.{byte, last_kind, step_kind, is_wide, body_length, file_record}
use Rattle.files.specs.Forms.{step_few}
use Rattle.files.specs.Numbered.{found_number, found_values, record_number, record_values}
use Rattle.files.specs.FoundLaws.{made}

module _ (file : List ℕ) where
  read_tells : (at : ℕ) → let f = (file_record file at).found in (found_number f ≡ record_number file at) × (found_values f ≡ record_values file at)
  unfolding file_record record_number record_values unless if
  read_tells at = let kind = byte file at in
      either (leb (length file) at) (λ e. rw (e, le-ltb at (length file) (leb-true (length file) at e)) (refl, refl))
      (λ e. rw (e, lt-ltb at (length file) (leb-false (length file) at e)) (either (ltb last_kind kind) (λ k. rw k (refl, refl))
      (λ k. rw k (either (ltb (length file - (at + 1)) (body_length kind)) (λ c. rw c (refl, refl))
      (λ c. rw c (refl, made file (step_kind kind) (is_wide kind) (at + 1) (step_few kind (ltb-false last_kind kind k))))))))

  module _ (at : ℕ) {r : Read} (e : r ≡ file_record file at) where
    pub told_number : found_number r.found ≡ record_number file at
    told_number = ap (λ (r : Read). found_number r.found) e ∙ (read_tells at).0

    pub told_values : found_values r.found ≡ record_values file at
    told_values = ap (λ (r : Read). found_values r.found) e ∙ (read_tells at).1

    pub told_all : (r ≡ file_record file at) × (found_number r.found ≡ record_number file at) × (found_values r.found ≡ record_values file at)
    told_all = (e, told_number, told_values)
