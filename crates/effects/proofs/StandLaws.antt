-- A record that was moved, or halted.
use Prim.Native.Nat.{ℕ, ◌^◌, ◌≤◌, ◌<◌}
use native.Mathlib.Omega.{arith}
use mathlib.Core.Bool.{Bool}
use mathlib.Core.List.{List}
use mathlib.Core.Logic.{inr}
use mathlib.Core.Path.{◌≡◌, sym, ◌∙◌, subst}
use lib.ListN.{set}
use Rattle.model.specs.declared.Numbers.{Numbers}
use Rattle.model.specs.declared.Round.{Round}
use Rattle.model.specs.declared.Sort.{Sort}
use Rattle.model.specs.declared.Sort.TheVariants.{Notices}
use Rattle.model.specs.declared.Word.{Word}
use Rattle.model.specs.declared.Effect.TheVariants.{Send, Close}
use Rattle.tables.specs.declared.Record.{Record}
use Rattle.model.specs.Limits.{most_phases}
use Rattle.model.specs.Rack.{round_of}
use Rattle.tables.specs.Layout.{Tables, record_end, record_at, record_stored, proposal_cell, ballot_cell, heard_cell, log_cell}
use Rattle.tables.specs.Bounds.{Bounds}
use Rattle.tables.specs.Addresses.{Within, notice_within, phase_low}
use Rattle.tables.specs.Sections.{elsewhere, record_agrees}
use Rattle.tables.specs.Write.{word_number, proposal_stored, ballot_stored, moved, shut, words_sent, write}
use Rattle.tables.specs.Calls.{tables}
use Rattle.effects.specs.Doable.{Closable}

-- a store behind a record leaves it
record_kept : (ws : List ℕ) (c i v : ℕ) → record_end c ≤ i → record_at (set ws i v) c ≡ record_at ws c
record_kept ws c i v h = record_agrees c (elsewhere ws i v (inr h))

-- ---- by the record that was loaded
module _ (ws : List ℕ) (c : ℕ) {k : Record} (loaded : k ≡ record_at ws c) where
  module _ (N : Numbers) where
    -- its slot is one of the run, and can be closed
    pub closable_is : Closable N (record_at ws c) → Closable N k
    closable_is h = subst (Closable N) (sym loaded) h

    pub slot_is : Closable N (record_at ws c) → k.slot < N.slots
    slot_is h = (closable_is h).low

    -- its notice is a message of the run
    pub own_notice : c < N.n → Closable N (record_at ws c) → Within N Notices k.slot 0 c
    own_notice hc h = notice_within N hc (slot_is h)

    -- the mark of its message stands behind the records, so the record that is moved is still the one that was loaded
    still_loaded : c < N.n → (so : Sort) (s p : ℕ) → k ≡ record_at (set ws (heard_cell N so s p c) (2 ^ c)) c
    still_loaded hc so s p = loaded ∙ sym (record_kept ws c (heard_cell N so s p c) (2 ^ c) (omega arith))

    -- it closes its slot
    pub closed_by : (x : ℕ) (own : Bool) (os : List ℕ) {ws' os' marked : List ℕ} → c < N.n → os' ≡ set os (log_cell N c k.slot) x
        → marked ≡ set ws (heard_cell N Notices k.slot 0 c) (2 ^ c) → ws' ≡ record_stored marked c (shut x own k)
        → (bs : List ℕ) → tables ws' os' bs ≡ write N c (Close x own) (tables ws os bs)
    unfolding write
    closed_by x own os hc l m q bs =
        let same = still_loaded hc Notices (record_at ws c).slot 0 in
        let left = q ∙ (λ i. record_stored (m i) c (shut x own k))
        ∙ (λ i. record_stored (set ws (heard_cell N Notices (loaded i).slot 0 c) (2 ^ c)) c (shut x own (same i))) in
        let logged = l ∙ (λ i. set os (log_cell N c (loaded i).slot) x) in
        λ i. tables (left i) (logged i) bs

    module _ (so : Sort) (p : ℕ) where
      words_left : {ws' marked : List ℕ} {a : Round} → c < N.n → marked ≡ set ws (heard_cell N so k.slot p c) (2 ^ c) → a ≡ round_of so
          → ws' ≡ record_stored marked c (moved a k.slot p k) → ws' ≡ words_sent N c so p ws
      words_left hc m e q =
          let same = still_loaded hc so (record_at ws c).slot p in
          q ∙ (λ i. record_stored (m i) c (moved (e i) k.slot p k))
          ∙ (λ i. record_stored (set ws (heard_cell N so (loaded i).slot p c) (2 ^ c)) c (moved (round_of so) (loaded i).slot p (same i)))

      -- it sends
      pub sent_by : (w : Word) (os bs : List ℕ) {ws' : List ℕ} {sent : Tables} {a : Round} → Within N so (record_at ws c).slot p c
          → sent ≡ tables (set ws (heard_cell N so k.slot p c) (2 ^ c)) (proposal_stored so (proposal_cell N k.slot c) (word_number w) os)
          (ballot_stored so (ballot_cell N so k.slot p c) (word_number w) bs)
          → a ≡ round_of so → ws' ≡ record_stored sent.words c (moved a k.slot p k)
          → tables ws' sent.orders sent.ballots ≡ write N c (Send so p w) (tables ws os bs)
      unfolding write
      sent_by w os bs d m e q =
          let left = words_left d.sender (λ i. (m i).words) e q in
          let proposed = (λ i. (m i).orders) ∙ (λ i. proposal_stored so (proposal_cell N (loaded i).slot c) (word_number w) os) in
          let voted = (λ i. (m i).ballots) ∙ (λ i. ballot_stored so (ballot_cell N so (loaded i).slot p c) (word_number w) bs) in
          λ i. tables (left i) (proposed i) (voted i)

-- a phase of the run fits its word
pub phase_fits : (N : Numbers) → Bounds N → {so : Sort} {s p d : ℕ} → Within N so s p d → p ≤ most_phases
phase_fits N b {so} {s} {p} w = let l = phase_low N so p w.phase in let h = b.phases_few in omega arith
