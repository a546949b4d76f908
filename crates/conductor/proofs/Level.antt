-- A rack that the conductor takes, in a run: what its refusals leave, and that after the relays every running replica would
-- propose the tag.
use Rattle.std.specs.Prelude.{ℕ, ◌<◌, Bool, true, false, ◌&&◌, List, ◌≡◌}
use Rattle.std.proofs.Common.{arith, ⊎_elim, sym, ◌∙◌}
use Rattle.std.proofs.Math.Bool.{not}
use Rattle.std.proofs.Math.Path.{refl, ap, fun_ext}
use borrow.Author.Tests.{ne_eqb, not-true}
use Rattle.tables.specs.Types.{Numbers, Sort, Unsent, Hold, Relay}
use Rattle.model.specs.Tests.{set, listed}
use Rattle.model.specs.Rack.{Replica, Rack, holding, adding, apply}
use Rattle.model.specs.Rules.{logged, pending, next_tag, relay_rule, own_rule}
use Rattle.model.specs.Conductor.{does, is_running, common_slot, pending_somewhere, common_tag}
use Rattle.model.specs.History.{History}
use Rattle.model.proofs.Branches.{if-true}
use Rattle.model.proofs.Cases.{and_true, and_both, Unmet, set-ind, set_same}
use Rattle.model.proofs.Counting.{any_here}
use Rattle.model.proofs.FirstTag.{first_of_narrow}
use Rattle.safety.specs.Comes.{Acts}
use Rattle.conductor.specs.Turns.{card, Takes, obeys, one_step}
use Rattle.conductor.specs.Rounds.{phase_of, Waiting}
use Rattle.conductor.specs.Level.{Level, holder, same_log, sort_some, tag_known, unsent}

module _ (N : Numbers) (r : Rack) (strip : List ℕ) where
  open N use {n, f, slots, phases}

  abbrev s : ℕ
  s = common_slot N r

  abbrev x : ℕ
  x = common_tag N r

  module _ (level : Level N r strip) where
    unheard : (c : ℕ) (so : Sort) (d : ℕ) → d < n → (r.at c).inbox so s (phase_of so) d ≡ Unsent
    unheard c so d l = ⊎_elim (λ e. e) (λ e. e ∙ unsent N r strip level so d l) ((level.invariant.replica c).heard so s (phase_of so) d)

    -- ---- so each that holds it proposes it

    module _ (c : ℕ) (l : c < n) (on : is_running N r c ≡ true) where
      proposes : next_tag r.known (holding x (r.at c)) ≡ x
      proposes = first_of_narrow (pending_somewhere N r) (pending (holding x (r.at c))) r.known within level.a_tag
          (and_both (set x true (r.at c).held x) _ (set_same x true (r.at c).held) unlogged)
        where
          unlogged : not (logged (r.at c) x) ≡ true
          unlogged = let (d, l', e) = holder N r strip level in let (on', p) = and_true (is_running N r d) _ e in
              ap not (same_log N r strip level c d l l' on on' x) ∙ (and_true ((r.at d).held x) _ p).1

          within : (y : ℕ) → pending (holding x (r.at c)) y ≡ true → pending_somewhere N r y ≡ true
          within y = set-ind (λ (b : Bool). (b && not (logged (r.at c) y)) ≡ true → pending_somewhere N r y ≡ true) x (r.at c).held y
              (λ e _. rw e (any_here n _ (holder N r strip level).0 (holder N r strip level).1 (holder N r strip level).2))
              (λ _ h. any_here n _ c l (and_both (is_running N r c) _ on h))

      waits : (r' : Rack) → r'.at c ≡ holding x (r.at c) → Waiting N r c (card r' c)
      waits r' e = rw e (record {
        in_slot = record {
          running = not-true _ on;
          slot = (level.even c l on).1;
          entries = refl;
          heard = λ so d l _ t. absurd (⊎_elim (λ z. omega arith) (λ z. omega (arith, sort_some so)) t);
          quiet = λ so d l _. unheard c so d l;
        };
        round = (level.even c l on).0;
        next = proposes;
      })

      -- one that holds it already is as if it were relayed there
      pub waits_holding : (r.at c).held x ≡ true → (r' : Rack) → r'.at c ≡ r.at c → Waiting N r c (card r' c)
      waits_holding has r' e =
          let k = r.at c in
          let same : set x true k.held ≡ k.held
          = fun_ext (λ y. set-ind (λ (b : Bool). b ≡ k.held y) x k.held y (λ q. sym (ap k.held q ∙ has)) (λ _. refl)) in
          waits r' (rw same e)

      pub relay_turn : (r.at c).held x ≡ false → (h : History) → h.rack.known ≡ r.known → h.rack.at c ≡ r.at c
          → Takes N strip (λ d. d ≡ c) (Waiting N r) (does (Relay x) c) 1 h
      unfolding own_rule Unmet apply adding
      relay_turn lacking h known same =
          let there = ap (listed x) known ∙ tag_known N r strip level in
          let acts : Acts N h.rack c = record { there = l; running = ap (λ (k : Replica). k.crashed) same ∙ not-true _ on } in
          one_step N strip _ (Waiting N r) h
          (obeys N strip level.long h.rack c acts (Relay x) refl (relay_rule h.rack.known (h.rack.at c) x) refl
          (ne_eqb x 0 level.a_tag, (ap not there, (ap (λ (k : Replica). k.held x) same ∙ lacking, tt))))
          refl (if-true _ _ there) (waits (apply c (Hold x) h.rack) (set_same c _ h.rack.at ∙ ap (holding x) same))
