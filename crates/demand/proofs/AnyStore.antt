-- Demand 2 of any memories: what an accepted step stores is what its rule does to the rack that the memories stand for, also in memories
-- that no run leaves, as long as they pass refusals 3 and 2; and what lies behind the part that the run needs is not touched.
use Rattle.std.specs.Prelude.{ℕ, ◌<◌, true, List, ◌≡◌}
use Rattle.std.proofs.Common.{arith, sym, ◌∙◌, ap, subst}
use Rattle.tables.specs.Types.{Numbers, Sort, Word, Effect, Refuse, Hold, Send, Close, Seek, Receive, Halt, Step}
use Rattle.model.specs.Rack.{apply}
use Rattle.model.specs.Scripts.{accepted}
use Rattle.model.proofs.Cases.{clash, unless_ind, unmet_both}
use Rattle.safety.proofs.Comes.{past}
use Rattle.tables.specs.Layout.{Tables, record_at, orders_need, ballots_need}
use Rattle.tables.specs.View.{view}
use Rattle.tables.specs.Write.{write}
use Rattle.tables.specs.Addresses.{proposal_in}
use Rattle.tables.proofs.Addresses.{ballot_in}
use Rattle.tables.specs.Calls.{lent_refusals, judge}
use Rattle.tables.specs.Sound.{Sound}
use Rattle.demand.specs.Statement.{Untouched}
use Rattle.demand.specs.Parts.{Part, part_stored, Parts, parts_untouched}
use Rattle.demand.specs.Writable.{Writable, Fits, Fitting, Fresh, fits_fresh, fitting}
use Rattle.demand.specs.Messages.{proposal_ind, ballot_ind}
use Rattle.demand.proofs.Refine.{refines}
use Rattle.demand.proofs.Stored.{write_parts}
use Rattle.demand.specs.AnyStore.{inside, open_slot, own_parts, placed, sent_anew, taken_back, written_over}

-- what an effect that is stored leaves
pub record Stores (N : Numbers) (t : Tables) (c : ℕ) (e : Effect) : Type 0 where
  -- of the rack: what the rules say
  pub as_ruled : Fresh N (view N t) c e → view N (write N c e t) ≡ apply c e (view N t)
  -- a message that was sent before, as in no run, is sent anew: nobody has heard it
  pub anew : view N (write N c e t) ≡ apply c e (view N (taken_back N c e t))
  pub behind : Untouched N t (write N c e t)

module _ (N : Numbers) (t : Tables) (fine : Sound N t) where
  module _ (c : ℕ) (there : c < N.n) where
    abbrev slot : ℕ
    slot = (record_at t.words c).slot

    -- a message that is sent anew, over what it was
    module _ (so : Sort) (p : ℕ) (w : Word) (ok : Fits N ((view N t).at c).closed so p w) where
      abbrev back : Tables
      back = taken_back N c (Send so p w) t

      parts_back : Parts N t back
      parts_back = record {
        words = (own_parts N t fine).words;
        orders = proposal_ind (Part (orders_need N) t.orders) so _ _ _
            (part_stored (own_parts N t fine).orders _ _ (let h = proposal_in N slot c (inside N t fine c there so p w ok).slot there in omega arith))
            (own_parts N t fine).orders;
        ballots = ballot_ind (Part (ballots_need N) t.ballots) so _ _ _
            (part_stored (own_parts N t fine).ballots _ _ (ballot_in N fine.within.phases_some so _ _ _ (inside N t fine c there so p w ok)))
            (own_parts N t fine).ballots;
      }

    -- what is written, whether or not a message was sent before
    abbrev Anew : Effect → Type 0
    Anew e = (view N (write N c e t) ≡ apply c e (view N (taken_back N c e t))) × Untouched N t (write N c e t)

    plainly : (e : Effect) → Writable N (view N t) c e → (view N (write N c e t) ≡ apply c e (view N t)) × Untouched N t (write N c e t)
    plainly e ok = (
      refines N fine.within t (own_parts N t fine) fine.known c there e ok,
      parts_untouched N (write_parts N fine.within t (own_parts N t fine) fine.known c there e ok),
    )

    anew : (e : Effect) → Fitting N (view N t) c e → Anew e
    anew = elim [
      | Refuse why ↦ plainly (Refuse why)
      | Hold x ↦ plainly (Hold x)
      | Send so p w ↦ λ ok.
          let e = Send so p w in
          let u = taken_back N c e t in
          let over = written_over N t fine c there so p w ok in
          let writes = sent_anew N t fine c there so p w ok in
          let parts = parts_back so p w ok in (
            ap (view N) (sym over) ∙ refines N fine.within u parts fine.known c there e writes,
            parts_untouched N (subst (Parts N t) over (write_parts N fine.within u parts fine.known c there e writes)),
          )
      | Close x own ↦ plainly (Close x own)
      | Seek ↦ plainly Seek
      | Receive so s p d w ↦ plainly (Receive so s p d w)
      | Halt ↦ plainly Halt
    ]

pub stores : (N : Numbers) (strip : List ℕ) (a : Step) (t : Tables) → Sound N t → accepted (judge N strip a t) ≡ true
    → Stores N t a.who.0 (judge N strip a t)
unfolding judge
stores N strip a t fine = let c = a.who.0 in
    unless_ind (λ (e : Effect). accepted e ≡ true → Stores N t c e) _ (λ why h. clash h) (λ unmet _.
    let (_, rest) = unmet_both (lent_refusals N a t) _ unmet in
    let (acts, rule) = past N (view N t) strip a rest in
    let fits = fitting N fine.within (view N t) (placed N t fine) acts (open_slot N t acts.there) rule in
    let written = anew N t fine c acts.there _ fits in
    record {
      as_ruled = λ fresh. (plainly N t fine c acts.there _ (fits_fresh N (view N t) c _ fits fresh)).0;
      anew = written.0;
      behind = written.1;
    })
