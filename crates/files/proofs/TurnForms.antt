-- Document 02, Point 6: "each old record and its new form give the same step". A player that comes to an old record in one file and to
-- its new form in another says the same of it, and the run and everything lent are the same behind it; the place alone differs.
use Rattle.std.specs.Prelude.{ℕ, List, ◌∷◌, ◌≡◌}
use Rattle.std.proofs.Math.Path.{subst}
use Rattle.model.specs.declared.Numbers.{Numbers}
use Rattle.tables.specs.Layout.{Tables}
use Rattle.files.specs.Found.{Found, Option}
use Rattle.files.specs.Format.{file_record}
use Rattle.files.specs.Forms.{new_opening, new_hear}
use Rattle.files.proofs.Forms.{same_opening, same_hear}
use Rattle.files.specs.declared.Player.{Player}
use Rattle.files.specs.Play.{turned, turn}
use Rattle.files.specs.TurnForms.{SameTurn, found_there, turn_at}

module _ (most : Numbers) (opened : Option Numbers) (t : Tables) (strip : List ℕ) where
  -- the same run at two places
  abbrev at_place : ℕ → Player
  at_place i = record { at = i; opened = opened }

  -- what is found alike is the same turn, whatever the files and places
  pub same_turn : (file file' : List ℕ) (i j : ℕ) → (file_record file i).found ≡ (file_record file' j).found
      → SameTurn (turn most file (at_place i) t strip) (turn most file' (at_place j) t strip)
  unfolding turn
  same_turn file file' i j e = let r = file_record file i in let r' = file_record file' j in
      subst (λ (f : Found). SameTurn (turned most (at_place i) t strip r.next r.found) (turned most (at_place j) t strip r'.next f)) e
      (found_there most opened t strip i j r.next r'.next r.found)

  module _ (old new rest : List ℕ) where
    pub opening_turn : SameTurn (turn_at most opened t strip new (new_opening rest)) (turn_at most opened t strip old (0 ∷ rest))
    opening_turn = same_turn _ _ _ _ (same_opening old new rest)

    pub hear_turn : SameTurn (turn_at most opened t strip new (new_hear rest)) (turn_at most opened t strip old (4 ∷ rest))
    hear_turn = same_turn _ _ _ _ (same_hear old new rest)

-- the same of two players that differ in their files and places alone
pub same_turns : (most : Numbers) (file file' : List ℕ) (p q : Player) (t u : Tables) (s v : List ℕ) → p.opened ≡ q.opened
    → t ≡ u → s ≡ v → (file_record file p.at).found ≡ (file_record file' q.at).found → SameTurn (turn most file p t s) (turn most file' q u v)
same_turns most file file' p q t u s v opened tables strip e =
    subst (λ (o : Option Numbers). Same (record { at = q.at; opened = o }) u v) opened
    (subst (λ (x : Tables). Same (record { at = q.at; opened = p.opened }) x v) tables
    (subst (λ (x : List ℕ). Same (record { at = q.at; opened = p.opened }) t x) strip
    (same_turn most p.opened t s file file' p.at q.at e)))
  where
    Same : Player → Tables → List ℕ → Type 0
    Same q u v = SameTurn (turn most file p t s) (turn most file' q u v)
