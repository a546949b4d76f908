-- Where submitted tags come from: no call but a submit hands one in, so that each was handed in by a submit of the list.
use Prim.Native.Nat.{ℕ}
use Rattle.std.specs.Prelude.{◌||◌, ◌≡◌}
use Rattle.std.proofs.Math.Bool.{true}
use mathlib.Core.List.{List, [], ◌∷◌}
use Rattle.model.specs.Tests.{some}
use Rattle.model.specs.History.{History, beginning, Lent, follow, run, after, submitted}
use Rattle.model.proofs.Cases.{or_left}
use Rattle.tables.specs.Types.{Numbers}
use Rattle.logs.specs.Handed.{call_hands, handed_in, hands, passed_on}

module _ (x : ℕ) where
  -- ---- what they leave of the submitted tags

  module _ (N : Numbers) where
    list_hands : (calls : List Lent) (h : History) → submitted (run N calls h) x ≡ true → (submitted h x || handed_in x calls) ≡ true
    unfolding run some
    list_hands [] h e = or_left _ _ e
    list_hands (l ∷ calls) h e =
        passed_on (submitted h x) (hands x l.call) (handed_in x calls) (submitted (follow N l h).state x) (call_hands x N l.strip l.call h)
        (list_hands calls (follow N l h).state e)

    -- "Submitted: by an accepted submit", which stands in the list
    pub submitted_handed : (calls : List Lent) → submitted (after N calls) x ≡ true → handed_in x calls ≡ true
    unfolding some
    submitted_handed calls e = list_hands calls beginning e
