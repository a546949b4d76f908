-- What the view has of a replica of the run is what its record, its marks and its log say.
use Prim.Native.Nat.{ℕ, ◌<◌}
use mathlib.Core.Bool.{Bool, true, false, not, ◌&&◌, not-not}
use mathlib.Core.List.{List}
use mathlib.Core.Path.{◌≡◌, refl, sym, ◌∙◌, ap, ap₂}
use lib.Dec.{eqb}
use Rattle.model.specs.declared.Numbers.{Numbers}
use Rattle.model.specs.declared.Round.TheVariants.{Idle, Exchange, State, Vote, Find}
use Rattle.model.specs.Tests.{if}
use Rattle.model.specs.Rack.{round_in, same_round, Replica, Rack}
use Rattle.model.specs.Rules.{pending}
use Rattle.model.specs.Conductor.{is_running, uneven, lacks}
use Rattle.tables.specs.Layout.{has_bit, known_in, record_at}
use Rattle.tables.specs.View.{holds, replica_at, view}
use Rattle.tables.specs.Calls.{tables}
use Rattle.tables.specs.Sound.{own_view}
use Rattle.survey.specs.Marked.{Marked}
use Rattle.survey.specs.Standing.{runs, uneven_record, waits}

-- idle is the round of number 0, and of no other
idle_number : (x : ℕ) → eqb x 0 ≡ same_round (round_in x) Idle
unfolding round_in if
idle_number x = go (eqb x 0) (eqb x 1) (eqb x 2) (eqb x 3)
  where
    go : (z a b c : Bool) → z ≡ same_round (if z Idle (if a Exchange (if b State (if c Vote Find)))) Idle
    go true a b c = refl
    go false true b c = refl
    go false false true c = refl
    go false false false true = refl
    go false false false false = refl

module _ (N : Numbers) (ws os bs : List ℕ) where
  abbrev pub seen : Rack
  seen = view N (tables ws os bs)

  module _ {c : ℕ} (there : c < N.n) where
    own : seen.at c ≡ replica_at N (tables ws os bs) c
    own = own_view N (tables ws os bs) there

    pub runs_seen : runs (record_at ws c) ≡ is_running N seen c
    runs_seen = sym (ap (λ (k : Replica). not k.crashed) own ∙ not-not _)

    pub slot_seen : (record_at ws c).slot ≡ (seen.at c).closed
    slot_seen = sym (ap (λ (k : Replica). k.closed) own)

    pub uneven_seen : (s : ℕ) → uneven_record s (record_at ws c) ≡ uneven N seen s c
    uneven_seen s =
        let idle = idle_number (record_at ws c).round ∙ sym (ap (λ (k : Replica). same_round k.round Idle) own) in
        ap₂ (λ (a b : Bool). a && not b) runs_seen (ap₂ (λ (a : Bool) (t : ℕ). a && eqb t s) idle slot_seen)

    module _ (running : ℕ) (marked : Marked N.n (is_running N seen) running) (x : ℕ) where
      pub waits_seen : waits N running ws os c x ≡ (is_running N seen c && pending (seen.at c) x)
      unfolding waits
      waits_seen = ap₂ (λ (a : Bool) (k : Replica). a && pending k x) (marked c there) (sym own)

      pub lacks_seen : (has_bit running c && not (holds N (known_in ws) os ws c x)) ≡ lacks N seen x c
      lacks_seen = ap₂ (λ (a : Bool) (k : Replica). a && not (k.held x)) (marked c there) (sym own)
