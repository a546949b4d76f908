-- The first tag that is pending somewhere, and who lacks a tag: replica by replica.
use Prim.Native.Nat.{ℕ, ◌+◌, ◌≤◌, ◌<◌}
use native.Mathlib.Omega.{arith}
use native.Mathlib.Nat.{le_antisymm}
use mathlib.Core.Bool.{Bool, true, false, not, ◌&&◌, ◌||◌}
use mathlib.Core.List.{List}
use mathlib.Core.Path.{◌≡◌, sym, ◌∙◌, ap, ap₂, subst, fun_ext}
use lib.Dec.{eqb}
use lib.ListN.{take}
use Rattle.model.specs.declared.Numbers.{Numbers}
use Rattle.model.specs.declared.Round.TheVariants.{Idle}
use Rattle.model.specs.Tests.{if, any}
use Rattle.model.specs.Rules.{ahead, earlier, first_of, pending, next_tag}
use Rattle.model.specs.Conductor.{is_running, common_tag, lacks}
use Rattle.model.proofs.Branches.{told}
use Rattle.model.proofs.Counting.{any_none, any_more, any_same}
use Rattle.model.proofs.FirstTag.{first_of_none, first_of_either}
use Rattle.tables.specs.declared.Record.{Record}
use Rattle.tables.specs.Layout.{has_bit, known_in, record_at, holders_base}
use Rattle.tables.specs.View.{closed_in, held_from}
use Rattle.tables.specs.Checks.{any_spoiled}
use Rattle.tables.specs.Sound.{closed_few, unspoiled_stands}
use Rattle.known.specs.Room.{Room, as_holder}
use Rattle.survey.specs.Marked.{Marked}
use Rattle.survey.specs.Standing.{waits}
use Rattle.survey.proofs.MarkLaws.{Marks, marks_all}
use Rattle.survey.proofs.SeenLaws.{seen, waits_seen, lacks_seen}

-- ---- the first of two tags

module _ (x y : ℕ) where
  abbrev sooner : ℕ
  sooner = if (eqb x 0) y (earlier x y)

  pub sooner_blank : eqb x 0 ≡ true → y ≡ sooner
  unfolding if
  sooner_blank e = rw e

  -- by whether x leads
  module _ (some : eqb x 0 ≡ false) {l : Bool} (is : l ≡ (eqb y 0 || ahead x y)) where
    pub sooner_first : l ≡ true → x ≡ sooner
    unfolding if earlier
    sooner_first q = rw (some, told is q)

    pub sooner_second : l ≡ false → y ≡ sooner
    unfolding if earlier
    sooner_second q = rw (some, told is q)

-- a replica has closed no more slots than there are
pub slots_few : {N : Numbers} {ws os : List ℕ} (c : ℕ) {k : Record} → Room N ws os → any_spoiled N ws ≡ false → c < N.n → k ≡ record_at ws c
    → k.slot ≤ N.slots
slots_few {N} {ws} c room fine there loaded =
    let long = room.words in
    subst (λ (k : Record). k.slot ≤ N.slots) (sym loaded) (closed_few N _ _ _ (unspoiled_stands N ws there (omega arith) fine))

module _ (N : Numbers) (running : ℕ) (ws os : List ℕ) where
  abbrev known : List ℕ
  known = take (known_in ws) os

  -- ---- the tag of one replica

  module _ (c : ℕ) where
    abbrev own_tag : ℕ
    own_tag = first_of (waits N running ws os c) known

    pub tag_none : has_bit running c ≡ false → 0 ≡ own_tag
    unfolding waits
    tag_none q = sym (first_of_none (waits N running ws os c) known (λ x. rw q))

    pub tag_next : {k : Record} {r : ℕ} → has_bit running c ≡ true → k ≡ record_at ws c → r ≡ next_tag known (as_holder N c Idle k.slot ws os)
        → r ≡ own_tag
    unfolding waits
    tag_next q loaded e =
        e ∙ ap (λ (k : Record). next_tag known (as_holder N c Idle k.slot ws os)) loaded
        ∙ sym (ap (λ (b : Bool). first_of (λ x. b && pending (as_holder N c Idle (closed_in ws c) ws os) x) known) q)

  -- ---- the first of all

  -- of the first i replicas
  abbrev pub first_among : ℕ → ℕ
  first_among i = first_of (λ x. any i (λ c. waits N running ws os c x)) known

  pub first_none : 0 ≡ first_among 0
  first_none = sym (first_of_none _ known (λ x. any_none _))

  pub first_more : (i : ℕ) {t f r : ℕ} → f ≡ first_among i → t ≡ first_of (waits N running ws os i) known → r ≡ sooner t f → r ≡ first_among (i + 1)
  first_more i so_far own e =
      e ∙ ap₂ sooner own so_far ∙ sym (first_of_either (waits N running ws os i) _ known)
      ∙ ap (λ (ok : ℕ → Bool). first_of ok known) (fun_ext (λ x. sym (any_more i _)))

  module _ (marked : (os bs : List ℕ) → Marked N.n (is_running N (seen N ws os bs)) running) where
    pub first_all : {i r : ℕ} → i ≤ N.n → N.n ≤ i → r ≡ first_among i → (bs : List ℕ) → r ≡ common_tag N (seen N ws os bs)
    first_all to from e bs =
        e ∙ ap first_among (le_antisymm to from)
        ∙ ap (λ (ok : ℕ → Bool). first_of ok known) (fun_ext (λ x. any_same N.n _ _ (λ c there. waits_seen N ws os bs there running (marked os bs) x)))

    -- ---- who lacks a tag, by the base and the count as the code has found them

    pub lacking_all : (x : ℕ) {base k i mask : ℕ} → base ≡ holders_base N → k ≡ known_in ws → i ≤ N.n → N.n ≤ i
        → Marks (λ c. has_bit running c && not (held_from base k os ws c x)) i mask → (bs : List ℕ) → Marked N.n (lacks N (seen N ws os bs) x) mask
    lacking_all x from-base count to from m bs c there = marks_all _ m c (omega arith)
        ∙ ap₂ (λ (a k : ℕ). has_bit running c && not (held_from a k os ws c x)) from-base count
        ∙ lacks_seen N ws os bs there running (marked os bs) x
