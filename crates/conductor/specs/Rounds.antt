-- Where a running replica stands while the conductor is at work: in which round, and which messages of the slot it has heard.
use Rattle.std.specs.Prelude.{ℕ, suc, ◌≤◌, ◌<◌, Bool, true, false, not, ◌&&◌, List, ◌⊎◌, ◌≢◌, ◌≡◌, refl, eqb}
use Rattle.std.proofs.Common.{arith, inl, inr, ⊎_elim, sym, ◌∙◌, ap, eqb-true}
use Rattle.std.proofs.Math.Decide.{ℕ_discrete, dec_lt}
use Rattle.std.proofs.lemmas.Bool.{not-false}
use Rattle.tables.specs.Types.{Numbers, Idle, Sort, Proposals, States, Votes, Notices, Word, Unsent, Tag, Say, Act, Step}
use Rattle.model.specs.Tests.{set}
use Rattle.model.specs.Rack.{sort_number, round_of, is_sent, Messages, put, Replica, Rack, sending, receiving}
use Rattle.model.specs.Rules.{next_tag}
use Rattle.model.specs.Conductor.{hear, hear_steps, is_running, common_slot, common_tag}
use Rattle.model.proofs.Cases.{same_sort, put-ind, put_same, put-other-sender}
use Rattle.safety.specs.Below.{fails}
use Rattle.conductor.specs.Turns.{Card}

-- the phase, and the word, of the messages of a sort: all propose the tag, then all say 1, and in the end all close with the tag
abbrev pub phase_of : Sort → ℕ
phase_of Proposals = 0
phase_of States = 1
phase_of Votes = 1
phase_of Notices = 0

abbrev pub word_of : ℕ → Sort → Word
word_of x Proposals = Tag x
word_of x States = Say true
word_of x Votes = Say true
word_of x Notices = Tag x

pub word_sent : (x : ℕ) (so : Sort) → is_sent (word_of x so) ≡ true
word_sent x Proposals = refl
word_sent x States = refl
word_sent x Votes = refl
word_sent x Notices = refl

-- by the rack that the conductor takes
module _ (N : Numbers) (r : Rack) where
  open N use {n}

  abbrev s : ℕ
  s = common_slot N r

  abbrev x : ℕ
  x = common_tag N r

  -- the message of a sort from d, whom c is to hear, and all those that it is to hear
  abbrev pub other : ℕ → ℕ → Bool
  other c d = is_running N r d && not (eqb d c)

  abbrev pub message : Sort → ℕ → Act
  message so d = hear (sort_number so) s (phase_of so) d

  abbrev pub hears_all : Sort → ℕ → List Step
  hears_all so = hear_steps n (is_running N r) s (sort_number so) (phase_of so)

  -- a replica c that is at the sort numbered i, and there at sender j, has heard all of the sorts before, and of this one its own
  -- message and those of the senders below j: of those that are running
  abbrev Heard : ℕ → ℕ → ℕ → Messages → Type 0
  Heard i j c m = (so : Sort) (d : ℕ) → d < n → is_running N r d ≡ true → (sort_number so < i) ⊎ ((sort_number so ≡ i) × ((d < j) ⊎ (d ≡ c)))
      → m so s (phase_of so) d ≡ word_of x so

  -- and nothing else
  abbrev Quiet : ℕ → ℕ → ℕ → Messages → Type 0
  Quiet i j c m = (so : Sort) (d : ℕ) → d < n → (i < sort_number so) ⊎ ((sort_number so ≡ i) × (j ≤ d) × (d ≢ c))
      → m so s (phase_of so) d ≡ Unsent

  -- it is running in the slot, with its log as it was
  pub record InSlot (i j c : ℕ) (k : Replica) : Type 0 where
    pub running : k.crashed ≡ false
    pub slot : k.closed ≡ s
    pub entries : k.entry ≡ (r.at c).entry
    pub heard : Heard i j c k.inbox
    pub quiet : Quiet i j c k.inbox

  -- before it begins, with the tag that it will propose
  pub record Waiting (c : ℕ) (k : Card) : Type 0 where
    pub in_slot : InSlot 0 n c k.own
    pub round : k.own.round ≡ Idle
    pub next : next_tag r.known k.own ≡ x

  -- in the round of a sort: it has sent its message of it
  pub record InRound (so : Sort) (j c : ℕ) (k : Card) : Type 0 where
    pub in_slot : InSlot (sort_number so) j c k.own
    pub round : k.own.round ≡ round_of so
    pub phase : k.own.phase ≡ phase_of so
    pub spoken : k.said so s (phase_of so) ≡ word_of x so

  -- it has closed the slot with the tag
  pub record Closed (c : ℕ) (k : Card) : Type 0 where
    pub running : k.own.crashed ≡ false
    pub round : k.own.round ≡ Idle
    pub slot : k.own.closed ≡ suc s
    pub entries : k.own.entry ≡ set s x (r.at c).entry

  -- ---- what it has heard

  -- of a sort that it is past, all
  pub whole : {i c : ℕ} {k : Replica} → InSlot i n c k → (so : Sort) (d : ℕ) → d < n → is_running N r d ≡ true → sort_number so ≤ i
      → k.inbox so s (phase_of so) d ≡ word_of x so
  whole {i} {c} {k} now so d l on q = go (dec_lt (sort_number so) i)
    where
      go : Dec (sort_number so < i) → k.inbox so s (phase_of so) d ≡ word_of x so
      go (yes b) = now.heard so d l on (inl b)
      go (no b) = now.heard so d l on (inr (omega arith, inl l))

  module _ (so : Sort) (c : ℕ) (k : Replica) where
    -- the messages that it has heard, with one of the sort more
    module _ (d : ℕ) where
      abbrev more : Messages
      more = put so s (phase_of so) d (word_of x so) k.inbox

      it_there : (so' : Sort) (e : ℕ) → sort_number so' ≡ sort_number so → e ≡ d → more so' s (phase_of so') e ≡ word_of x so'
      it_there so' e q z = rw (same_sort so' so q, z) (put_same so s _ d _ k.inbox)

      other_sort : (so' : Sort) (e : ℕ) → sort_number so' ≢ sort_number so → more so' s (phase_of so') e ≡ k.inbox so' s (phase_of so') e
      other_sort so' e ne = put-ind (λ (u : Word). u ≡ k.inbox so' s (phase_of so') e) so s _ d k.inbox so' s _ e
          (λ i. absurd (ne (ap sort_number (sym i.sort)))) refl

      other_sender : (so' : Sort) (e : ℕ) → e ≢ d → more so' s (phase_of so') e ≡ k.inbox so' s (phase_of so') e
      other_sender so' e ne = put-other-sender so s _ d _ k.inbox so' s _ e ne

    -- it comes to a sort as it sends its own message
    pub sent_own : {i : ℕ} → sort_number so ≡ suc i → InSlot i n c k → InSlot (sort_number so) 0 c (sending c so (phase_of so) (word_of x so) k)
    sent_own e now =
        record { running = now.running; slot = now.slot; entries = now.entries; heard = rw now.slot heard; quiet = rw now.slot quiet }
      where
        heard : Heard (sort_number so) 0 c (more c)
        heard so' d l on (inl q) = other_sort c so' d (omega arith) ∙ whole now so' d l on (omega arith)
        heard so' d l on (inr (q, inl z)) = absurd (omega arith)
        heard so' d l on (inr (q, inr z)) = it_there c so' d q z

        quiet : Quiet (sort_number so) 0 c (more c)
        quiet so' d l (inl q) = other_sort c so' d (omega arith) ∙ now.quiet so' d l (inl (omega arith))
        quiet so' d l (inr (q, z, ne)) = other_sender c so' d ne ∙ now.quiet so' d l (inl (omega arith))

    -- it goes on to the next sender, which it hears, or passes over if that has crashed or is itself
    module _ (j : ℕ) (now : InSlot (sort_number so) j c k) where
      pub heard_next : InSlot (sort_number so) (suc j) c (receiving so s (phase_of so) j (word_of x so) k)
      heard_next = record { running = now.running; slot = now.slot; entries = now.entries; heard = heard; quiet = quiet }
        where
          heard : Heard (sort_number so) (suc j) c (more j)
          heard so' d l on (inl q) = other_sort j so' d (omega arith) ∙ now.heard so' d l on (inl q)
          heard so' d l on (inr (q, t)) = go (ℕ_discrete d j)
            where
              go : Dec (d ≡ j) → more j so' s (phase_of so') d ≡ word_of x so'
              go (yes z) = it_there j so' d q z
              go (no ne) = other_sender j so' d ne ∙ now.heard so' d l on (inr (q, ⊎_elim (λ z. inl (omega arith)) inr t))

          quiet : Quiet (sort_number so) (suc j) c (more j)
          quiet so' d l (inl q) = other_sort j so' d (omega arith) ∙ now.quiet so' d l (inl q)
          quiet so' d l (inr (q, z, ne)) = other_sender j so' d (omega arith) ∙ now.quiet so' d l (inr (q, omega arith, ne))

      pub passed_next : other c j ≡ false → InSlot (sort_number so) (suc j) c k
      passed_next not-other = record { running = now.running; slot = now.slot; entries = now.entries; heard = heard; quiet = quiet }
        where
          heard : Heard (sort_number so) (suc j) c k.inbox
          heard so' d l on (inl q) = now.heard so' d l on (inl q)
          heard so' d l on (inr (q, t)) = now.heard so' d l on (inr (q, go (ℕ_discrete d j)))
            where
              go : Dec (d ≡ j) → (d < j) ⊎ (d ≡ c)
              go (yes z) = inr (z ∙ eqb-true j c (not-false _ (fails (is_running N r j) _ (ap (is_running N r) (sym z) ∙ on) not-other)))
              go (no ne) = ⊎_elim (λ z. inl (omega arith)) inr t

          quiet : Quiet (sort_number so) (suc j) c k.inbox
          quiet so' d l (inl q) = now.quiet so' d l (inl q)
          quiet so' d l (inr (q, z, ne)) = now.quiet so' d l (inr (q, omega arith, ne))
