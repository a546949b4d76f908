-- Refinement: what an effect stores in the tables is what it does to the rack that they stand for.
use Prim.Native.Nat.{ℕ, ◌^◌, ◌≤◌, ◌<◌}
use Rattle.std.proofs.Common.{arith, inr, sym, ◌∙◌, length-set, eq-eqb}
use Rattle.std.specs.Prelude.{Bool, ◌||◌, ◌≡◌, get_or, set as store_at}
use mathlib.Core.List.{List}
use Rattle.std.proofs.Math.Path.{refl, ap}
use Rattle.std.proofs.Math.ListN.{take}
use Rattle.std.proofs.lemmas.List.{take-set-le}
use Rattle.tables.specs.Types.{Numbers, Idle, Find, Sort, Notices, Word}
use Rattle.tables.specs.Types.{Unsent, Tag, Effect, Refuse, Hold, Send, Close, Seek, Receive, Halt}
use Rattle.tables.specs.declared.Record.{Record}
use Rattle.model.specs.Tests.{set}
use Rattle.model.specs.Rack.{round_of, Messages, put, Replica, fresh_replica, holding, sending, closing, seeking, receiving, halting, apply}
use Rattle.tables.specs.Layout.{Tables, has_bit, with_bit, known_in, record_at, record_stored}
use Rattle.tables.specs.Layout.{heard_cell, proposal_cell, ballot_cell, log_cell}
use Rattle.tables.specs.View.{below, holds, guarded, written_words, closed_in, log_in, sent_words, inbox_in}
use Rattle.tables.specs.View.{replica_in, replica_at, view}
use Rattle.tables.specs.Write.{word_number, moved, shut, halted, with_change, proposal_stored, ballot_stored}
use Rattle.tables.specs.Write.{words_sent, words_closed, words_received, write}
use Rattle.tables.specs.Bounds.{Bounds}
use Rattle.tables.specs.Addresses.{Within, notice_within}
use Rattle.tables.specs.Masks.{has_with, has_one}
use Rattle.demand.specs.Cells.{below_ext, below_set, put_self, SameInRun, guarded_ext, guarded_put}
use Rattle.demand.specs.Records.{records_set}
use Rattle.demand.proofs.Records.{logs_set}
use Rattle.demand.specs.Orders.{known_adding, holds_set}
use Rattle.demand.specs.Messages.{proposal_ind, Alters, words_put, noting_put, noting_close, inboxes_set}
use Rattle.tables.specs.Sections.{agree_self, elsewhere}
use Rattle.tables.specs.Sections.{SameTags}
use Rattle.demand.specs.Alike.{record_alike, written_alike, noting_alike, inbox_alike, log_alike}
use Rattle.demand.specs.Parts.{Parts}
use Rattle.demand.specs.Writable.{Sendable, Hearable, Writable}
use Rattle.demand.specs.Refine.{closed_set, head_kept, head_same, heard_apart, heard_kept, heard_same, holders_kept, holders_same, keeps_closed}
use Rattle.demand.specs.Refine.{keeps_held, keeps_logs, keeps_records, keeps_sent, known_same, logs_apart, marks_same, moved_in, no_notice, parts_set}
use Rattle.demand.specs.Refine.{proposals_apart, records_apart, replica_there, same_logs, same_records, sent_before, sent_within, set-ext, set_self}
use Rattle.demand.specs.Refine.{slot_is, slot_low, unheard_before, unsent_before}

module _ (N : Numbers) where
  open N use {n, slots, room}

  -- ---- the effects

  module _ (bounds : Bounds N) {before : Tables} (t : Tables) (parts : Parts N before t) (few : known_in t.words ≤ room) (c : ℕ) (there : c < n) where
    abbrev ws : List ℕ
    ws = t.words

    abbrev os : List ℕ
    os = t.orders

    abbrev k : Record
    k = record_at ws c

    abbrev sent : Messages
    sent = sent_words N ws os t.ballots

    abbrev held : ℕ → ℕ → Bool
    held = holds N (known_in ws) os ws

    abbrev inboxes : ℕ → Messages
    inboxes e = guarded N (inbox_in N ws os t.ballots e)

    -- the replicas, where replica c's four come to what the effect makes of it
    replicas : {records' : ℕ → Record} {logs' : ℕ → ℕ → ℕ} {held' : ℕ → ℕ → Bool} {inboxes' : ℕ → Messages} (k' : Record) {l : ℕ → ℕ}
        {h : ℕ → Bool} {m : Messages}
        → ((d : ℕ) → d < n → records' d ≡ set c k' (record_at ws) d) → ((d : ℕ) → d < n → logs' d ≡ set c l (log_in N os) d)
        → ((d : ℕ) → held' d ≡ set c h held d) → ((d : ℕ) → inboxes' d ≡ set c m inboxes d)
        → (change : Replica → Replica) → replica_in N k' l h m ≡ change (replica_at N t c)
        → below n fresh_replica (λ d. replica_in N (records' d) (logs' d) (held' d) (inboxes' d)) ≡ set c (change ((view N t).at c)) (view N t).at
    replicas k' {l} {h} {m} a b e g change q =
        below_ext n fresh_replica (λ d low. (λ i. replica_in N (a d low i) (b d low i) (e d i) (g d i))
        ∙ parts_set N c k' l h m (record_at ws) (log_in N os) held inboxes d)
        ∙ below_set n fresh_replica (replica_at N t) c (replica_in N k' l h m) there
        ∙ ap (λ (x : Replica). set c x (view N t).at) (q ∙ ap change (sym (replica_there N t c there)))

    records_changed : (k' : Record) (d : ℕ) → d < n → record_at (record_stored ws c k') d ≡ set c k' (record_at ws) d
    records_changed k' d low = ap (λ (g : ℕ → Record). g d) (records_set ws c k' (let l = parts.words.enough in omega arith))

    -- only the record changes, and its slot does not
    record_only : (k' : Record) → k'.slot ≡ k.slot → (change : Replica → Replica)
        → replica_in N k' (log_in N os c) (held c) (inboxes c) ≡ change (replica_at N t c)
        → view N (record { words = record_stored ws c k'; orders = os; ballots = t.ballots })
        ≡ record { known = (view N t).known; sent = (view N t).sent; at = set c (change ((view N t).at c)) (view N t).at }
    record_only k' stays change q = let same = keeps_sent N bounds t parts few c there
        (keeps_closed N bounds t parts few c there k' stays (records_changed k')) (agree_self os) (agree_self os) in λ i. record {
          known = known_same N bounds t parts few c there os (head_kept N bounds t parts few c there ws k') refl i;
          sent = guarded_ext N same i;
          at = replicas k' (records_changed k') (keeps_logs N bounds t parts few c there (agree_self os))
              (keeps_held N bounds t parts few c there (head_kept N bounds t parts few c there ws k') (agree_self os)
              (holders_kept N bounds t parts few c there ws k'))
              (λ d. inbox_alike N same (heard_kept N bounds t parts few c there ws k') d ∙ set_self N inboxes c d) change q i;
        }

    -- ---- a message that is sent: marked for its sender alone, whose record changes

    module _ (so : Sort) (p : ℕ) (move : Record → Record) where
      abbrev at : ℕ
      at = heard_cell N so k.slot p c

      -- the words with the mark, and then with the record
      abbrev marked : List ℕ
      marked = store_at ws at (2 ^ c)

      abbrev ws' : List ℕ
      ws' = with_change marked c move

      sent_records : (d : ℕ) → d < n → record_at ws' d ≡ set c (move k) (record_at ws) d
      sent_records d low =
          ap (λ (g : ℕ → Record). g d) (records_set marked c _ (rw length-set (let l = parts.words.enough in omega arith)))
          ∙ set-ext N c (record_at marked) (record_at ws) d (ap move (record_alike N (same_records N bounds t parts few c there so p move) c there))
          (record_alike N (same_records N bounds t parts few c there so p move) d low)

      module _ (w : Word) (inside : Within N so k.slot p c) (blank : sent so k.slot p c ≡ Unsent) where
        sends : (os' bs' : List ℕ) {l : ℕ → ℕ} → take (known_in ws) os' ≡ take (known_in ws) os → SameTags N os os'
            → ((d : ℕ) → d < n → log_in N os' d ≡ set c l (log_in N os) d) → Alters N so k.slot p c w sent (sent_words N ws' os' bs')
            → (change : Replica → Replica) → replica_in N (move k) l (held c) (put so k.slot p c w (inboxes c)) ≡ change (replica_at N t c)
            → let r = view N t in view N (record { words = ws'; orders = os'; ballots = bs' })
            ≡ record { known = r.known; sent = put so (r.at c).closed p c w r.sent; at = set c (change (r.at c)) r.at }
        sends os' bs' known tags logs alters change q = λ i. record {
          known = known_same N bounds t parts few c there os' (head_same N bounds t parts few c there so p move) known i;
          sent = (guarded_put N sent so k.slot p c w inside alters ∙ ap (λ (s : ℕ). put so s p c w (view N t).sent) (slot_is N t c there)) i;
          at = replicas (move k) sent_records logs (keeps_held N bounds t parts few c there (head_same N bounds t parts few c there so p move) tags
              (holders_same N bounds t parts few c there so p move))
              (λ d. inbox_alike N (λ so s p d w. refl) (marks_same N bounds t parts few c there so p move) d
              ∙ ap (λ (g : ℕ → Messages). g d) (inboxes_set N ws parts.words.enough
              so k.slot p c inside sent _ w alters (2 ^ c) c (has_one c c ∙ eq-eqb c c refl)
              (unheard_before N bounds t parts few c there so p move w inside blank))) change q i;
        }

    module _ (so : Sort) (p : ℕ) (w : Word) (ok : Sendable N (view N t) c so p w) where
      abbrev inside : Within N so k.slot p c
      inside = sent_within N t c there ok

      abbrev spot : ℕ
      spot = proposal_cell N k.slot c

      abbrev os_sent : List ℕ
      os_sent = proposal_stored so spot (word_number w) os

      abbrev bs_sent : List ℕ
      bs_sent = ballot_stored so (ballot_cell N so k.slot p c) (word_number w) t.ballots

      sent_alters : Alters N so k.slot p c w sent (sent_words N (words_sent N c so p ws) os_sent bs_sent)
      sent_alters so' s' p' d' w' =
          noting_alike N {m = written_words N os_sent bs_sent}
          (keeps_closed N bounds t parts few c there _ refl (sent_records so p (moved (round_of so) k.slot p)))
          (log_alike N (same_logs N bounds t parts few c there so p w ok)) (λ so s p d w. refl)
          so' s' p' d' w'
          ∙ noting_put N (closed_in ws) (log_in N os) (written_words N os t.ballots) so k.slot p c w ok.plain
          (words_put N os t.ballots parts.orders.enough parts.ballots.enough bounds.phases_some so k.slot p c w ok.plain inside ok.spelt)
          so' s' p' d' w'

    -- who closes a slot sends its notice
    module _ (x : ℕ) (own : Bool) (low : ((view N t).at c).closed < slots) where
      abbrev cell : ℕ
      cell = log_cell N c k.slot

      abbrev os_closed : List ℕ
      os_closed = store_at os cell x

      logs_changed : (d : ℕ) → d < n → log_in N os_closed d ≡ set c (set k.slot x (log_in N os c)) (log_in N os) d
      logs_changed d h = ap (λ (g : ℕ → ℕ → ℕ). g d) (logs_set N os parts.orders.enough c k.slot x there (slot_low N t c there low))

      close_alters : Alters N Notices k.slot 0 c (Tag x) sent (sent_words N (words_closed N c x own ws) os_closed t.ballots)
      close_alters so' s' p' d' w' =
          noting_alike N (closed_set N bounds t parts few c there _ (sent_records Notices 0 (shut x own))) logs_changed
          (written_alike N (elsewhere os cell x (inr (omega arith))) t.ballots) so' s' p' d' w'
          ∙ noting_close N (closed_in ws) (log_in N os) (written_words N os t.ballots) c x so' s' p' d' w'

    -- what is heard is marked for one more replica
    module _ (so : Sort) (s p d : ℕ) (w : Word) (ok : Hearable N (view N t) so s p d w) where
      abbrev mask : ℕ
      mask = get_or ws (heard_cell N so s p d) 0

      heard_sent : SameInRun N (sent_words N (words_received N c so s p d ws) os t.ballots) sent
      heard_sent = keeps_sent N bounds t parts few c there
          (keeps_closed N bounds t parts few c there k refl
          (keeps_records N bounds t parts few c there (elsewhere ws (heard_cell N so s p d) _ (inr (omega arith))))) (agree_self os) (agree_self os)

      sent_still : Alters N so s p d w sent (sent_words N (words_received N c so s p d ws) os t.ballots)
      sent_still so' s' p' d' inside = heard_sent so' s' p' d' inside
          ∙ ap (λ (m : Messages). m so' s' p' d') (sym (put_self sent so s p d (sent_before N bounds t parts few c there so s p d w ok)))

    pub refines : (e : Effect) → Writable N (view N t) c e → view N (write N c e t) ≡ apply c e (view N t)
    unfolding write apply
    refines (Refuse why) ok = refl
    refines (Hold x) ok =
        let same = keeps_sent N bounds t parts few c there
        (keeps_closed N bounds t parts few c there k refl (keeps_records N bounds t parts few c there (records_apart N bounds t parts few c there x ok)))
        (proposals_apart N bounds t parts few c there x ok) (logs_apart N bounds t parts few c there x ok) in λ i. record {
          known = known_adding N os ws few parts.orders.enough parts.words.enough x ok c i;
          sent = guarded_ext N same i;
          at = replicas k (keeps_records N bounds t parts few c there (records_apart N bounds t parts few c there x ok))
              (keeps_logs N bounds t parts few c there (logs_apart N bounds t parts few c there x ok))
              (holds_set N os ws few parts.orders.enough parts.words.enough x ok c)
              (λ d. inbox_alike N same (heard_apart N bounds t parts few c there x ok) d ∙ set_self N inboxes c d) (holding x) refl i;
        }
    refines (Send so p w) ok =
        sends so p (moved (round_of so) k.slot p) w (inside so p w ok) (unsent_before N bounds t parts few c there so p w ok) (os_sent so p w ok)
        (bs_sent so p w ok)
        (proposal_ind (λ (l : List ℕ). take (known_in ws) l ≡ take (known_in ws) os) so _ _ os (take-set-le (known_in ws) os _ _ (omega arith)) refl)
        (proposal_ind (SameTags N os) so _ _ os (elsewhere os _ _ (inr (omega arith))) (agree_self os))
        (keeps_logs N bounds t parts few c there (same_logs N bounds t parts few c there so p w ok)) (sent_alters so p w ok) (sending c so p w)
        (moved_in N (round_of so) _ _ k _ _ _)
    refines (Close x own) low =
        sends Notices 0 (shut x own) (Tag x) (notice_within N there (slot_low N t c there low)) (no_notice N bounds t parts few c there x own low)
        (os_closed x own low) t.ballots
        (take-set-le (known_in ws) os (cell x own low) x (omega arith)) (elsewhere os (cell x own low) x (inr (omega arith)))
        (logs_changed x own low) (close_alters x own low) (closing c x own) (moved_in N Idle _ _ (shut x own k) _ _ _)
    refines Seek ok = record_only _ refl seeking (moved_in N Find _ _ k _ _ _)
    refines (Receive so s p d w) ok = let at = heard_cell N so s p d in let m = with_bit (mask so s p d w ok) c in λ i. record {
      known = known_same N bounds t parts few c there os (elsewhere ws at m (inr (omega arith))) refl i;
      sent = guarded_ext N (heard_sent so s p d w ok) i;
      at = replicas k (keeps_records N bounds t parts few c there (elsewhere ws at m (inr (omega arith))))
          (keeps_logs N bounds t parts few c there (agree_self os))
          (keeps_held N bounds t parts few c there (elsewhere ws at m (inr (omega arith))) (agree_self os) (elsewhere ws at m (inr (omega arith))))
          (λ e. ap (λ (g : ℕ → Messages). g e) (inboxes_set N ws parts.words.enough so s p d ok.within sent _ w (sent_still so s p d w ok) m c
          (has_with _ c c ∙ ap (λ (b : Bool). b || has_bit (mask so s p d w ok) c) (eq-eqb c c refl)) (heard_same N bounds t parts few c there so s p d w ok)))
          (receiving so s p d w) refl i;
    }
    refines Halt ok = record_only (halted k) refl halting refl
