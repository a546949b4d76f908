-- Document 02, Point 6: "each old record and its new form give the same step". A player that comes to an old record in one file and to
-- its new form in another says the same of it, and the run and everything lent are the same behind it; the place alone differs.
use Rattle.std.specs.Prelude.{ℕ, List, ◌++◌, ◌≡◌, length}
use Rattle.std.proofs.Math.Path.{refl}
use Rattle.model.specs.declared.Numbers.{Numbers}
use Rattle.tables.specs.Layout.{Tables}
use Rattle.files.specs.Found.{Found, Option, Ok, Err, None, Some}
use Rattle.files.specs.declared.Player.{Player}
use Rattle.files.specs.Play.{Turn, called_in_place, turned, turn}

pub record SameTurn (x y : Turn) : Type 0 where
  pub said : x.said ≡ y.said
  pub number : x.number ≡ y.number
  pub values : x.values ≡ y.values
  pub opened : x.player.opened ≡ y.player.opened
  pub tables : x.tables ≡ y.tables
  pub strip : x.strip ≡ y.strip

module _ (most : Numbers) (opened : Option Numbers) (t : Tables) (strip : List ℕ) where
  -- the same run at two places
  abbrev pub at_place : ℕ → Player
  at_place i = record { at = i; opened = opened }

  module _ (i j k l : ℕ) where
    pub found_there : (f : Found) → SameTurn (turned most (at_place i) t strip k f) (turned most (at_place j) t strip l f)
    unfolding turned called_in_place
    found_there (Ok None) = record { said = refl; number = refl; values = refl; opened = refl; tables = refl; strip = refl }
    found_there (Err why) = record { said = refl; number = refl; values = refl; opened = refl; tables = refl; strip = refl }
    found_there (Ok (Some a)) = record { said = refl; number = refl; values = refl; opened = refl; tables = refl; strip = refl }

  -- the turn of a player that stands behind some bytes of a file and before the rest
  abbrev pub turn_at : List ℕ → List ℕ → Turn
  turn_at before rest = turn most (before ++ rest) (at_place (length before)) t strip
