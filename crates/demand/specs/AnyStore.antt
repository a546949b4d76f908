-- Demand 2 of any memories: what an accepted step stores is what its rule does to the rack that the memories stand for, also in memories
-- that no run leaves, as long as they pass refusals 3 and 2; and what lies behind the part that the run needs is not touched.
use Rattle.std.specs.Prelude.{ℕ, ◌<◌, true, List, ◌≡◌, refl}
use Rattle.std.proofs.Common.{sym, ◌∙◌, ap, subst, set-set}
use Rattle.tables.specs.Types.{Numbers, Sort, Proposals, States, Votes, Notices, Word, Unsent, Effect, Refuse, Hold, Send, Close, Seek, Receive, Halt}
use Rattle.model.specs.Rack.{is_sent, Replica, apply}
use Rattle.model.specs.Rules.{notice}
use Rattle.model.proofs.Cases.{put_same}
use Rattle.tables.specs.Layout.{Tables, record_at, proposal_cell, ballot_cell}
use Rattle.tables.specs.View.{closed_in, log_in, written_words, view}
use Rattle.tables.specs.Words.{no_word}
use Rattle.tables.specs.Write.{word_number, proposal_stored, ballot_stored, words_sent, write}
use Rattle.tables.specs.Addresses.{Within, guarded_at}
use Rattle.tables.specs.Sound.{Sound, stands, own_view, noticed_low}
use Rattle.demand.specs.Statement.{Untouched}
use Rattle.demand.specs.Parts.{Parts}
use Rattle.demand.specs.Writable.{Writable, Fits, Placed, sendable}
use Rattle.demand.specs.Messages.{words_put, noting_put}
use Rattle.demand.specs.Refine.{slot_low}

-- memories in which the message that the effect sends is not sent yet
abbrev pub taken_back : Numbers → ℕ → Effect → Tables → Tables
taken_back N c (Refuse why) t = t
taken_back N c (Hold x) t = t
taken_back N c (Send so p w) t = let s = (record_at t.words c).slot in record {
  words = t.words;
  orders = proposal_stored so (proposal_cell N s c) 0 t.orders;
  ballots = ballot_stored so (ballot_cell N so s p c) 0 t.ballots;
}
taken_back N c (Close x own) t = t
taken_back N c Seek t = t
taken_back N c (Receive so s p d w) t = t
taken_back N c Halt t = t

-- ---- a cell that is cleared and stored

proposal_twice : (so : Sort) (i v : ℕ) (l : List ℕ) → proposal_stored so i v (proposal_stored so i 0 l) ≡ proposal_stored so i v l
proposal_twice Proposals i v l = set-set l i 0 v
proposal_twice States i v l = refl
proposal_twice Votes i v l = refl
proposal_twice Notices i v l = refl

ballot_twice : (so : Sort) (i v : ℕ) (l : List ℕ) → ballot_stored so i v (ballot_stored so i 0 l) ≡ ballot_stored so i v l
ballot_twice Proposals i v l = refl
ballot_twice States i v l = set-set l i 0 v
ballot_twice Votes i v l = set-set l i 0 v
ballot_twice Notices i v l = refl

-- a heard notice is of a slot that is open
pub open_slot : (N : Numbers) (t : Tables) {c : ℕ} → c < N.n → is_sent (notice N ((view N t).at c)) ≡ true → ((view N t).at c).closed < N.slots
open_slot N t there heard =
    subst (λ (s : ℕ). s < N.slots) (sym (ap (λ (k : Replica). k.closed) (own_view N t there))) (noticed_low N t there heard)

module _ (N : Numbers) (t : Tables) (fine : Sound N t) where
  pub own_parts : Parts N t t
  own_parts = record {
    words = record { enough = fine.long.words; rest = refl };
    orders = record { enough = fine.long.orders; rest = refl };
    ballots = record { enough = fine.long.ballots; rest = refl };
  }

  pub placed : (c : ℕ) → c < N.n → Placed N ((view N t).at c)
  placed c there = subst (Placed N) (sym (own_view N t there)) (stands N fine there)

  module _ (c : ℕ) (there : c < N.n) where
    abbrev pub slot : ℕ
    slot = (record_at t.words c).slot

    -- a message that is sent anew, over what it was
    module _ (so : Sort) (p : ℕ) (w : Word) (ok : Fits N ((view N t).at c).closed so p w) where
      abbrev pub back : Tables
      back = taken_back N c (Send so p w) t

      pub inside : Within N so slot p c
      inside = record { sender = there; slot = slot_low N t c there ok.open_slot; phase = ok.phase }

      unsent : (view N back).sent so slot p c ≡ Unsent
      unsent = let said = written_words N t.orders t.ballots in
          guarded_at N _ inside ∙ noting_put N (closed_in t.words) (log_in N back.orders) said so slot p c Unsent ok.plain
          (words_put N t.orders t.ballots fine.long.orders fine.long.ballots fine.within.phases_some so slot p c Unsent ok.plain inside
          (no_word so)) so slot p c inside ∙ put_same so slot p c Unsent _

      pub written_over : write N c (Send so p w) back ≡ write N c (Send so p w) t
      unfolding write
      written_over = λ i. record {
        words = words_sent N c so p t.words;
        orders = proposal_twice so (proposal_cell N slot c) (word_number w) t.orders i;
        ballots = ballot_twice so (ballot_cell N so slot p c) (word_number w) t.ballots i;
      }

      pub sent_anew : Writable N (view N back) c (Send so p w)
      sent_anew =
          let same = ap (λ (k : Replica). k.closed) (own_view N t there) in
          let same' = ap (λ (k : Replica). k.closed) (own_view N back there) in
          sendable N (view N back) c so p w (subst (λ (s : ℕ). Fits N s so p w) (same ∙ sym same') ok)
          (ap (λ (s : ℕ). (view N back).sent so s p c) same' ∙ unsent)

    -- what is written, whether or not a message was sent before
    abbrev Anew : Effect → Type 0
    Anew e = (view N (write N c e t) ≡ apply c e (view N (taken_back N c e t))) × Untouched N t (write N c e t)
