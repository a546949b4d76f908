-- What an effect stores keeps what the tables must be: the part that the run needs is there and the rest is untouched, the
-- known tags are within the room, and no record is spoiled.
use Rattle.std.specs.Prelude.{ℕ, ◌≤◌, ◌<◌, ◌^◌, false, List, ◌≡◌, length, set as store_at}
use Rattle.std.proofs.Common.{arith, inr, ◌∙◌, ap, length-set}
use borrow.Author.Tests.{lt-leb}
use Rattle.tables.specs.Types.{Numbers, Find, Sort, Notices}
use Rattle.tables.specs.Types.{Effect, Refuse, Hold, Send, Close, Seek, Receive, Halt}
use Rattle.tables.specs.declared.Record.{Record}
use Rattle.model.specs.Rack.{round_of}
use Rattle.model.proofs.Cases.{if-ind, set-ind}
use Rattle.tables.specs.Layout.{Tables, known_in, record_at, record_stored, heard_cell, words_need, orders_need, ballots_need}
use Rattle.tables.specs.View.{view}
use Rattle.tables.specs.Write.{moved, shut, with_change, write}
use Rattle.tables.specs.Checks.{misplaced, astray, overcounted, spoiled}
use Rattle.tables.specs.Bounds.{Bounds}
use Rattle.tables.specs.Sound.{CountsFit, fine_counts}
use Rattle.tables.proofs.Sound.{moved_fine, shut_fine}
use Rattle.tables.specs.Addresses.{Within, notice_within, proposal_in, log_in_range}
use Rattle.tables.proofs.Addresses.{heard_in, ballot_in}
use Rattle.demand.specs.Records.{records_set}
use Rattle.demand.specs.Orders.{place_low, room_left}
use Rattle.demand.specs.Messages.{proposal_ind, ballot_ind}
use Rattle.demand.specs.Parts.{Part, part_stored, Parts}
use Rattle.demand.proofs.Parts.{record_part}
use Rattle.demand.specs.Writable.{Writable}
use Rattle.demand.specs.Refine.{slot_low, sent_within, records_apart}
use Rattle.tables.specs.Sections.{SameRecords, elsewhere}
use Rattle.demand.specs.Alike.{record_alike}
use Rattle.demand.specs.Stored.{kept_fine, parts_with, sent_placed}

module _ (N : Numbers) where
  open N use {n, slots, room}

  module _ (bounds : Bounds N) {before : Tables} (t : Tables) (parts : Parts N before t) (few : known_in t.words ≤ room) (c : ℕ) (there : c < n) where
    abbrev k : Record
    k = record_at t.words c

    stored_part : {l : List ℕ} (k' : Record) → Part (words_need N) before.words l → Part (words_need N) before.words (record_stored l c k')
    stored_part k' part = record_part part c k' (omega arith)

    -- a message of the current slot is marked, and the record stored
    marked_part : (so : Sort) (p : ℕ) → Within N so k.slot p c → (k' : Record)
        → Part (words_need N) before.words (record_stored (store_at t.words (heard_cell N so k.slot p c) (2 ^ c)) c k')
    marked_part so p inside k' = stored_part k' (part_stored parts.words _ _ (heard_in N so _ _ _ inside))

    pub write_parts : (e : Effect) → Writable N (view N t) c e → Parts N before (write N c e t)
    unfolding write
    write_parts (Refuse why) ok = parts
    write_parts (Hold x) ok =
        let place = place_low N t.orders t.words few parts.orders.enough parts.words.enough x ok in
        let left = room_left N t.orders t.words few parts.orders.enough parts.words.enough x ok in
        record {
          words = if-ind (Part (words_need N) before.words) _ (λ e. let low = place e in part_stored parts.words _ _ (omega arith))
              (λ e. let low = left e in part_stored (part_stored parts.words _ _ (omega arith)) 0 _ (omega arith));
          orders = if-ind (Part (orders_need N) before.orders) _ (λ _. parts.orders)
              (λ e. let low = left e in part_stored parts.orders _ x (omega arith));
          ballots = parts.ballots;
        }
    write_parts (Send so p w) ok = let inside = sent_within N t c there ok in record {
      words = marked_part so _ inside _;
      orders = proposal_ind (Part (orders_need N) before.orders) so _ _ _
          (part_stored parts.orders _ _ (let h = proposal_in N k.slot c inside.slot there in omega arith)) parts.orders;
      ballots = ballot_ind (Part (ballots_need N) before.ballots) so _ _ _
          (part_stored parts.ballots _ _ (ballot_in N bounds.phases_some so _ _ _ inside)) parts.ballots;
    }
    write_parts (Close x own) ok = record {
      words = marked_part Notices 0 (notice_within N there (slot_low N t c there ok)) _;
      orders = part_stored parts.orders _ x (log_in_range N c _ there (slot_low N t c there ok));
      ballots = parts.ballots;
    }
    write_parts Seek ok = parts_with N bounds t parts few c there (stored_part _ parts.words)
    write_parts (Receive so s p d w) ok = parts_with N bounds t parts few c there (part_stored parts.words _ _ (heard_in N so s p d ok.within))
    write_parts Halt ok = parts_with N bounds t parts few c there (stored_part _ parts.words)

    module _ (unspoiled : (d : ℕ) → d < n → spoiled N (record_at t.words d) ≡ false) where
      abbrev Fine : List ℕ → Type 0
      Fine l = (d : ℕ) → d < n → spoiled N (record_at l d) ≡ false

      stored_fine : (l : List ℕ) → words_need N ≤ length l → Fine l → (k' : Record) → spoiled N k' ≡ false → Fine (record_stored l c k')
      stored_fine l long was k' fine d h = rw (records_set l c k' (omega arith))
          (set-ind (λ (k : Record). spoiled N k ≡ false) c (record_at l) d (λ _. fine) (λ _. was d h))

      -- a message of the current slot is marked, and its sender's record changes
      changed_fine : (so : Sort) (p : ℕ) (move : Record → Record) → spoiled N (move k) ≡ false
          → Fine (with_change (store_at t.words (heard_cell N so k.slot p c) (2 ^ c)) c move)
      changed_fine so p move fine =
          let same : SameRecords N t.words _ = elsewhere t.words (heard_cell N so k.slot p c) (2 ^ c) (inr (omega arith)) in
          stored_fine _ (rw length-set parts.words.enough) (kept_fine N bounds t parts few c there unspoiled same) _
          (ap (λ (k : Record). spoiled N (move k)) (record_alike N same c there) ∙ fine)

      abbrev fit : CountsFit k
      fit = fine_counts N k (unspoiled c there)

      pub write_unspoiled : (e : Effect) → Writable N (view N t) c e → Fine (write N c e t).words
      unfolding write misplaced astray overcounted spoiled
      write_unspoiled (Refuse why) ok = unspoiled
      write_unspoiled (Hold x) ok = kept_fine N bounds t parts few c there unspoiled (records_apart N bounds t parts few c there x ok)
      write_unspoiled (Send so p w) ok = let placed = sent_placed N so _ p (slot_low N t c there ok.open_slot) ok.phase in
          changed_fine so p (moved (round_of so) k.slot p) (moved_fine N (round_of so) k.slot p k placed fit)
      write_unspoiled (Close x own) ok = changed_fine Notices 0 (shut x own) (shut_fine N x own k (slot_low N t c there ok) fit)
      write_unspoiled Seek ok = stored_fine _ parts.words.enough unspoiled _ (moved_fine N Find _ k.phase k (lt-leb _ _ (slot_low N t c there ok)) fit)
      write_unspoiled (Receive so s p d w) ok = kept_fine N bounds t parts few c there unspoiled
          (elsewhere t.words (heard_cell N so s p d) _ (inr (omega arith)))
      write_unspoiled Halt ok = stored_fine _ parts.words.enough unspoiled _ (unspoiled c there)
