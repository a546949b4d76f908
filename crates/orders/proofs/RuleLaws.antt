-- Submit, relay and begin: one law for each way out of the code.
use mathlib.Core.Path.{◌≡◌, refl, sym, ◌∙◌, ap₂, subst}
use mathlib.Core.Bool.{Bool, true, false, not, ◌&&◌}
use mathlib.Core.List.{List}
use Prim.Native.Nat.{ℕ, ◌≤◌}
use native.Mathlib.Omega.{arith}
use lib.Dec.{leb, ltb, eqb}
use lib.ListN.{length, take}
use borrow.Author.Tests.{not-true, not-false}
use denote.Enum.Bare.{sameb}
use Rattle.model.specs.contracts.Round.{the_type}
use Rattle.model.specs.declared.Numbers.{Numbers}
use Rattle.model.specs.declared.Round.{Round}
use Rattle.model.specs.declared.Round.TheVariants.{Idle, Exchange, State, Vote, Find}
use Rattle.model.specs.declared.Sort.TheVariants.{Proposals}
use Rattle.model.specs.declared.Word.TheVariants.{Tag}
use Rattle.model.specs.declared.Refusal.{Refusal}
use Rattle.model.specs.declared.Refusal.TheVariants.{BlankTag, AlreadyHeld, TagRoomFull, UnknownTag, Busy, LogFull, NothingPending}
use Rattle.model.specs.declared.Effect.{Effect}
use Rattle.model.specs.declared.Effect.TheVariants.{Refuse, Hold, Send}
use Rattle.model.specs.Tests.{if, listed}
use Rattle.model.specs.Rack.{same_round, Replica}
use Rattle.model.specs.TurnedAway.{unless, settle}
use Rattle.model.specs.Rules.{submit_rule, relay_rule, begin_rule, next_tag}
use Rattle.model.proofs.Branches.{told}
use Rattle.tables.specs.Layout.{known_in, holders_base}
use Rattle.tables.specs.View.{held_from}
use Rattle.tables.specs.Write.{place_in}
use Rattle.known.specs.Room.{Acting, as_holder}
use Rattle.known.proofs.TagLaws.{in_tags, known_place, room_for}

module _ (N : Numbers) (c x : ℕ) (ws os : List ℕ) where
  abbrev known : List ℕ
  known = take (known_in ws) os

  abbrev own : Replica
  own = as_holder N c Idle 0 ws os

  abbrev submits : Effect
  submits = settle (submit_rule N.room known own x)

  abbrev relays : Effect
  relays = settle (relay_rule known own x)

  -- tag 0
  pub submit_blank : {why : Refusal} → why ≡ BlankTag → eqb x 0 ≡ true → Refuse why ≡ submits
  unfolding unless if
  submit_blank is e = rw (is, e)

  pub relay_blank : {why : Refusal} → why ≡ BlankTag → eqb x 0 ≡ true → Refuse why ≡ relays
  unfolding unless if
  relay_blank is e = rw (is, e)

  -- another tag, by the count and the place as the code has found them
  module _ (acts : Acting N c ws os) (some : eqb x 0 ≡ false) {k i : ℕ} (count : k ≡ known_in ws) (place : i ≡ place_in x (take k os)) where
    few : k ≤ length os
    few = let l = in_tags acts.room in omega arith

    -- whether it is listed
    listed_is : {t : Bool} → ltb i k ≡ t → listed x known ≡ t
    listed_is {t} q = subst (λ (j : ℕ). listed x (take j os) ≡ t) count (sym (known_place os k few x place) ∙ q)

    -- whether it is new and no room is left
    full_is : {t u : Bool} → ltb i k ≡ t → leb N.room k ≡ u → (not (listed x known) && leb N.room (length known)) ≡ (not t && u)
    full_is {t} {u} p q =
        subst (λ (j : ℕ). (not (listed x (take j os)) && leb N.room (length (take j os))) ≡ (not t && u)) count
        (room_for os k few x N.room place ∙ ap₂ (λ (a b : Bool). not a && b) p q)

    -- a tag that is not known
    pub relay_unknown : ltb i k ≡ false → Refuse UnknownTag ≡ relays
    unfolding unless if
    relay_unknown new = rw (some, listed_is new)

    -- whether it is held
    module _ {base : ℕ} (from : base ≡ holders_base N) {h : Bool} (holds : h ≡ held_from base k os ws c x) where
      held_is : {t : Bool} → h ≡ t → own.held x ≡ t
      held_is q = sym (ap₂ (λ (a j : ℕ). held_from a j os ws c x) from count) ∙ told holds q

      pub submit_held : h ≡ true → Refuse AlreadyHeld ≡ submits
      unfolding unless if
      submit_held q = rw (some, held_is q)

      -- a new tag, no room left
      pub submit_full : h ≡ false → ltb i k ≡ false → leb N.room k ≡ true → Refuse TagRoomFull ≡ submits
      unfolding unless if
      submit_full q new full = rw (some, held_is q, full_is new full)

      -- a new tag, room left
      pub submit_new : h ≡ false → ltb i k ≡ false → leb N.room k ≡ false → Hold x ≡ submits
      unfolding unless if
      submit_new q new room = rw (some, held_is q, full_is new room)

      -- a known tag
      pub submit_known : h ≡ false → ltb i k ≡ true → Hold x ≡ submits
      unfolding unless if
      submit_known q old = rw (some, held_is q, full_is old refl)

      pub relay_held : ltb i k ≡ true → h ≡ true → Refuse AlreadyHeld ≡ relays
      unfolding unless if
      relay_held old q = rw (some, listed_is old, held_is q)

      pub relay_good : ltb i k ≡ true → h ≡ false → Hold x ≡ relays
      unfolding unless if
      relay_good old q = rw (some, listed_is old, held_is q)

-- the code's test of a round is the definition's
idle_is : (a : Round) → sameb the_type a Idle ≡ same_round a Idle
idle_is Idle = refl
idle_is Exchange = refl
idle_is State = refl
idle_is Vote = refl
idle_is Find = refl

module _ (N : Numbers) (c : ℕ) (a : Round) (s : ℕ) (ws os : List ℕ) where
  abbrev begins : Effect
  begins = settle (begin_rule N.slots (take (known_in ws) os) (as_holder N c a s ws os))

  -- in a round
  pub begin_busy : true ≡ not (sameb the_type a Idle) → Refuse Busy ≡ begins
  unfolding unless if
  begin_busy e = rw (← idle_is a, not-true _ (sym e))

  module _ (free : false ≡ not (sameb the_type a Idle)) where
    idle : same_round a Idle ≡ true
    idle = sym (idle_is a) ∙ not-false _ (sym free)

    -- all slots closed
    pub begin_full : leb N.slots s ≡ true → Refuse LogFull ≡ begins
    unfolding unless if
    begin_full h = rw (idle, h)

    -- by the tag that comes next, and whether it is 0
    module _ (low : leb N.slots s ≡ false) {x : ℕ} (next : x ≡ next_tag (take (known_in ws) os) (as_holder N c Idle s ws os)) where
      pub begin_none : eqb x 0 ≡ true → Refuse NothingPending ≡ begins
      unfolding unless if
      begin_none e = rw (idle, low, ← next, e)

      pub begin_sends : eqb x 0 ≡ false → Send Proposals 0 (Tag x) ≡ begins
      unfolding unless if
      begin_sends e = rw (idle, low, ← next, e)
