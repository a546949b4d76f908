-- Where a replica of a run stands: its round, slot and phase go together, and it has sent all messages of its slot that it
-- has come past. specs/Invariant tells what it has not sent; this is the other half, by which no run is ever stuck.
use Rattle.std.specs.Prelude.{ℕ, ◌≤◌, ◌<◌, true, ◌≢◌, ◌≡◌}
use native.Mathlib.Omega.{arith}
use Rattle.std.proofs.Math.Path.{refl, sym}
use Rattle.std.proofs.Common.{◌∙◌, ap}
use Rattle.safety.specs.Types.{Numbers, Round, Idle, Exchange, State, Vote, Find, Sort, Proposals, States, Votes, Notices, Word, Tag}
use Rattle.model.specs.Rack.{round_of, is_sent, Messages, Replica, Rack}
use Rattle.model.specs.Rules.{vote_of}
use Rattle.model.proofs.Cases.{if-ind}
use Rattle.safety.specs.Grow.{Grows, stays}
use Rattle.safety.specs.Invariant.{progress, place}

module _ (N : Numbers) where
  open N use {slots, phases}

  -- ---- the messages that rounds send

  -- those of a sort's phases; a notice goes with a close
  abbrev pub Due : Sort → ℕ → Type 0
  Due Proposals p = p ≡ 0
  Due States p = (1 ≤ p) × (p ≤ phases)
  Due Votes p = (1 ≤ p) × (p ≤ phases)
  Due Notices p = ⊥

  due_later : (so : Sort) (p : ℕ) → Due so p → 0 < place so p
  unfolding progress
  due_later Proposals p h = omega arith
  due_later States p h = let l = h.0 in omega arith
  due_later Votes p h = omega arith
  due_later Notices p h = absurd h

  -- each has a place of its own
  pub one_place : (so so' : Sort) (p p' : ℕ) → Due so p → Due so' p' → place so p ≡ place so' p' → (so ≡ so') × (p ≡ p')
  unfolding progress
  one_place Proposals Proposals p p' a b e = (refl, a ∙ sym b)
  one_place Proposals States p p' a b e = absurd (omega arith)
  one_place Proposals Votes p p' a b e = absurd (let l = b.0 in omega arith)
  one_place Proposals Notices p p' a b e = absurd b
  one_place States Proposals p p' a b e = absurd (omega arith)
  one_place States States p p' a b e = (refl, omega arith)
  one_place States Votes p p' a b e = absurd (omega arith)
  one_place States Notices p p' a b e = absurd b
  one_place Votes Proposals p p' a b e = absurd (let l = a.0 in omega arith)
  one_place Votes States p p' a b e = absurd (omega arith)
  one_place Votes Votes p p' a b e = (refl, omega arith)
  one_place Votes Notices p p' a b e = absurd b
  one_place Notices so' p p' a b e = absurd a

  -- ---- where a replica stands

  -- the phase of a round is that of the messages that it waits for
  abbrev pub Phased : Round → ℕ → Type 0
  Phased Idle q = Unit {0}
  Phased Exchange q = Due Proposals q
  Phased State q = Due States q
  Phased Vote q = Due Votes q
  Phased Find q = Unit {0}

  -- an order that the replica proposed in a slot
  abbrev pub Bid : Messages → ℕ → ℕ → Type 0
  Bid m s c = (x : ℕ) × (x ≢ 0) × (m Proposals s 0 c ≡ Tag x)

  -- of replica c, in a round of slot s and phase q
  pub record Steady (m : Messages) (c : ℕ) (a : Round) (s q : ℕ) : Type 0 where
    pub low : s ≤ slots
    pub within : a ≢ Idle → s < slots
    pub phased : Phased a q
    pub bid : a ≢ Idle → Bid m s c
    pub so_far : (so : Sort) (p : ℕ) → Due so p → place so p ≤ progress a q → is_sent (m so s p c) ≡ true

  abbrev pub Stands : Messages → ℕ → Replica → Type 0
  Stands m c k = Steady m c k.round k.closed k.phase

  abbrev pub SteadyRack : Rack → Type 0
  SteadyRack r = (c : ℕ) → Stands r.sent c (r.at c)

  pub idles : (m : Messages) (c s q : ℕ) → s ≤ slots → Steady m c Idle s q
  unfolding progress
  idles m c s q l = record {
    low = l;
    within = λ ne. absurd (ne refl);
    phased = tt;
    bid = λ ne. absurd (ne refl);
    so_far = λ so p due h. absurd (omega (arith, due_later so p due));
  }

  -- ---- every step keeps it

  pub bid_grows : {m m' : Messages} (s c : ℕ) → Grows m m' → Bid m s c → Bid m' s c
  bid_grows s c g (x, ne, e) = (x, ne, stays g Proposals s 0 c refl e)

  pub sent_grows : {m m' : Messages} → Grows m m' → (so : Sort) (s p c : ℕ) → is_sent (m so s p c) ≡ true → is_sent (m' so s p c) ≡ true
  sent_grows g so s p c h = ap is_sent (stays g so s p c h refl) ∙ h

  pub due_phased : (so : Sort) (p : ℕ) → Due so p → Phased (round_of so) p
  due_phased Proposals p h = h
  due_phased States p h = h
  due_phased Votes p h = h
  due_phased Notices p h = tt

  pub vote_sent : (k : Replica) → is_sent (vote_of N k) ≡ true
  vote_sent k = if-ind (λ (w : Word). is_sent w ≡ true) _ (λ _. refl) (λ _. if-ind (λ (w : Word). is_sent w ≡ true) _ (λ _. refl) (λ _. refl))
