-- The link between the tables and the history's rack: the tables stand for the rack, the part that the run needs is there,
-- no record is spoiled, and what is behind that part is as the opening found it. Every step comes to the same on the tables
-- as on the rack, and keeps the link.
use Prim.Native.Nat.{ℕ, ◌<◌}
use Rattle.std.proofs.Common.{sym, ◌∙◌, ap, subst}
use Rattle.std.specs.Prelude.{true, List, ◌≡◌}
use Rattle.tables.specs.Types.{Numbers, Effect, Act, Step}
use Rattle.model.specs.Limits.{limited}
use Rattle.model.specs.Rack.{Rack, apply}
use Rattle.model.specs.Rules.{decide}
use Rattle.safety.specs.Comes.{Comes, refused, ruled}
use Rattle.safety.proofs.Comes.{comes}
use Rattle.safety.specs.Invariant.{Allowed}
use Rattle.safety.proofs.Kept.{kept}
use Rattle.safety.proofs.Allowed.{decide_allowed}
use Rattle.tables.specs.Layout.{Tables}
use Rattle.tables.specs.Write.{write}
use Rattle.tables.specs.Calls.{performed}
use Rattle.tables.specs.Bounds.{bounds}
use Rattle.demand.specs.Writable.{Writable}
use Rattle.demand.proofs.Writable.{writable}
use Rattle.demand.proofs.Refine.{refines}
use Rattle.demand.specs.Stored.{write_room}
use Rattle.demand.proofs.Stored.{write_parts, write_unspoiled}
use Rattle.demand.specs.Linked.{Linked, judged, placed}

module _ (N : Numbers) (limits : limited N ≡ true) where
  open N use {n}

  module _ {opening t : Tables} {r : Rack} (link : Linked N opening t r) where
    write_linked : (c : ℕ) → c < n → (e : Effect) → Writable N r c e → Allowed N r c e → Linked N opening (write N c e t) (apply c e r)
    write_linked c there e ok may =
        let b = bounds N limits in
        let p = link.parts in
        let few = link.room_enough in
        let ok' = subst (λ (r : Rack). Writable N r c e) (sym link.same_view) ok in
        record {
          same_view = refines N b t p few c there e ok' ∙ ap (apply c e) link.same_view;
          parts = write_parts N b t p few c there e ok';
          room_enough = write_room N b t p few c there e ok';
          unspoiled = write_unspoiled N b t p few c there link.unspoiled e ok';
          invariant = kept N r link.invariant c e may;
        }

    comes_linked : (c : ℕ) {a : Act} {e : Effect} → Comes N r c a e → Allowed N r c e → Linked N opening (write N c e t) (apply c e r)
    unfolding write apply
    comes_linked c (refused why) may = link
    comes_linked c (ruled {e = e} acts rule) may =
        write_linked c acts.there e (writable N (bounds N limits) r (placed N limits link) link.invariant acts rule may) may

    pub step_linked : (strip : List ℕ) (a : Step) → Linked N opening (performed N strip a t) (apply a.who.0 (decide N strip a r) r)
    step_linked strip a = rw (judged N limits link strip a)
        (comes_linked a.who.0 (comes N r strip a) (decide_allowed N (bounds N limits).fits r link.invariant strip a))
