-- The sections of a memory: two memories that agree on one. A store in another section keeps it; this one law is what the
-- sections' being apart comes to.
use Rattle.std.specs.Prelude.{ℕ, ◌+◌, ◌≤◌, ◌<◌, List, ◌⊎◌, ◌≡◌, refl, get_or, set as store_at}
use Rattle.std.proofs.Common.{arith, inl, inr, ⊎_elim, ◌∙◌, get_or-set_other}
use Rattle.tables.specs.Types.{Numbers, Record}
use Rattle.tables.specs.Layout.{header_words, record_cell, record_end, record_at, record_stored, holders_base}
use Rattle.tables.specs.Layout.{holder_cell, heard_base, words_need, proposal_cell, logs_base, orders_need}

-- ---- one law for all sections

-- two memories agree from one place up to another
pub record Agree (lo hi : ℕ) (l l' : List ℕ) : Type 0 where
  pub at : (i : ℕ) → lo ≤ i → i < hi → get_or l' i 0 ≡ get_or l i 0

-- a place, or a stretch of places, outside a section
abbrev pub Outside : ℕ → ℕ → ℕ → ℕ → Type 0
Outside lo hi from past = (past ≤ lo) ⊎ (hi ≤ from)

pub elsewhere : {lo hi : ℕ} (l : List ℕ) (i v : ℕ) → Outside lo hi i (i + 1) → Agree lo hi l (store_at l i v)
elsewhere {lo} {hi} l i v out = record {
  at = λ j a b. get_or-set_other l i j v 0
      (λ e. ⊎_elim (λ (h : i + 1 ≤ lo). omega arith) (λ (h : hi ≤ i). omega arith) out);
}

pub agree_more : {lo hi : ℕ} {l l' l'' : List ℕ} → Agree lo hi l l' → Agree lo hi l' l'' → Agree lo hi l l''
agree_more p q = record { at = λ i a b. q.at i a b ∙ p.at i a b }

pub agree_self : {lo hi : ℕ} (l : List ℕ) → Agree lo hi l l
agree_self l = record { at = λ i a b. refl }

pub record_elsewhere : {lo hi : ℕ} (l : List ℕ) (c : ℕ) (k : Record) → Outside lo hi (record_cell c) (record_end c) → Agree lo hi l (record_stored l c k)
unfolding record_stored
record_elsewhere {lo} {hi} l c k out =
    agree_more (elsewhere l (record_cell c) k.crashed (out_at _ (omega arith) (omega arith)))
    (agree_more (elsewhere _ (record_cell c + 1) k.round (out_at _ (omega arith) (omega arith)))
    (agree_more (elsewhere _ (record_cell c + 2) k.slot (out_at _ (omega arith) (omega arith)))
    (agree_more (elsewhere _ (record_cell c + 3) k.phase (out_at _ (omega arith) (omega arith)))
    (agree_more (elsewhere _ (record_cell c + 4) k.empty (out_at _ (omega arith) (omega arith)))
    (elsewhere _ (record_cell c + 5) k.fast (out_at _ (omega arith) (omega arith)))))))
  where
    out_at : (j : ℕ) → record_cell c ≤ j → j < record_end c → Outside lo hi j (j + 1)
    out_at j a b = ⊎_elim (λ (h : record_end c ≤ lo). inl (omega arith)) (λ (h : hi ≤ record_cell c). inr (omega arith)) out

-- a record, where its words agree
pub record_agrees : {l l' : List ℕ} (c : ℕ) → Agree (record_cell c) (record_end c) l l' → record_at l' c ≡ record_at l c
unfolding record_at
record_agrees c same = λ i. record {
  crashed = same.at (record_cell c) (omega arith) (omega arith) i;
  round = same.at (record_cell c + 1) (omega arith) (omega arith) i;
  slot = same.at (record_cell c + 2) (omega arith) (omega arith) i;
  phase = same.at (record_cell c + 3) (omega arith) (omega arith) i;
  empty = same.at (record_cell c + 4) (omega arith) (omega arith) i;
  fast = same.at (record_cell c + 5) (omega arith) (omega arith) i;
}

-- ---- the sections

module _ (N : Numbers) where
  abbrev pub SameHead : List ℕ → List ℕ → Type 0
  SameHead = Agree 0 header_words

  abbrev pub SameRecords : List ℕ → List ℕ → Type 0
  SameRecords = Agree header_words (holders_base N)

  abbrev pub SameHolders : List ℕ → List ℕ → Type 0
  SameHolders = Agree (holders_base N) (heard_base N)

  abbrev pub SameHeard : List ℕ → List ℕ → Type 0
  SameHeard = Agree (heard_base N) (words_need N)

  abbrev pub SameTags : List ℕ → List ℕ → Type 0
  SameTags = Agree 0 N.room

  abbrev pub SameProposals : List ℕ → List ℕ → Type 0
  SameProposals = Agree N.room (logs_base N)

  abbrev pub SameLogs : List ℕ → List ℕ → Type 0
  SameLogs = Agree (logs_base N) (orders_need N)

  -- each section ends where the next begins, or before
  pub record InOrder : Type 0 where
    pub records : (c : ℕ) → c < N.n → record_end c ≤ holders_base N
    pub holders : (i : ℕ) → i < N.room → holder_cell N i < heard_base N
    pub proposals : (s d : ℕ) → s < N.slots → d < N.n → proposal_cell N s d < logs_base N
