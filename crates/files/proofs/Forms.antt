-- Document 02, Point 6: "Show that each old record and its new form give the same step." What a record is read as goes by its kind
-- and by the bytes behind that alone. An opening of kind 0 and its form of kind 8, a hear of kind 4 and its form of kind 9 are read as
-- the same call, for every body and wherever they stand; where the one is cut, the other is.
use Prim.Native.Nat.{ℕ}
use Rattle.std.specs.Prelude.{List, ◌∷◌, ◌++◌, ◌≡◌}
use Rattle.std.proofs.Common.{sym, ◌∙◌}
use Rattle.std.proofs.Math.ListN.{length}
use Rattle.files.specs.Format.{file_record}
use Rattle.files.specs.Forms.{hear_forms, hear_front, new_hear, new_opening, opening_forms, opening_front, read_there, widened}

-- each in a file of its own
module _ (old new rest : List ℕ) where
  pub same_opening : (file_record (new ++ new_opening rest) (length new)).found ≡ (file_record (old ++ (0 ∷ rest)) (length old)).found
  same_opening = read_there new 8 (widened opening_front rest) ∙ opening_forms rest ∙ sym (read_there old 0 rest)

  pub same_hear : (file_record (new ++ new_hear rest) (length new)).found ≡ (file_record (old ++ (4 ∷ rest)) (length old)).found
  same_hear = read_there new 9 (widened hear_front rest) ∙ hear_forms rest ∙ sym (read_there old 4 rest)
