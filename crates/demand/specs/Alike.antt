-- What is read alike of memories that agree on a section.
use Rattle.std.specs.Prelude.{ℕ, ◌≤◌, ◌<◌, ◌&&◌, List, ◌≡◌}
use Rattle.std.proofs.Common.{arith}
use Rattle.std.proofs.Math.Path.{refl, ap, ap₂, fun_ext}
use Rattle.std.proofs.Math.Dec.{eqb}
use Rattle.tables.specs.Types.{Numbers, Proposals, States, Votes, Notices, Word, Unsent}
use Rattle.model.specs.Tests.{if}
use Rattle.model.specs.Rack.{Messages}
use Rattle.model.proofs.Counting.{any_same}
use Rattle.tables.specs.Layout.{has_bit, known_in, record_at, holder_cell, heard_cell, proposal_cell, log_cell}
use Rattle.tables.specs.View.{held_from, holds, word_in, notice_in, noting, counts_for, guarded, letter, written_words, heard_words, log_in}
use Rattle.tables.specs.Addresses.{proposal_in, log_in_range}
use Rattle.tables.proofs.Addresses.{heard_in}
use Rattle.tables.specs.Sections.{record_agrees, SameHead, SameRecords, SameHolders, SameHeard, SameTags, SameProposals, SameLogs}
use Rattle.demand.specs.Cells.{below_ext, SameInRun, guarded_ext}

module _ (N : Numbers) where
  open N use {n, slots, room}

  pub known_alike : {ws ws' : List ℕ} → SameHead N ws ws' → known_in ws' ≡ known_in ws
  unfolding known_in
  known_alike same = same.at 0 (omega arith) (omega arith)

  pub record_alike : {ws ws' : List ℕ} → SameRecords N ws ws' → (c : ℕ) → c < n → record_at ws' c ≡ record_at ws c
  record_alike same c h = record_agrees c (record { at = λ i a b. same.at i (omega arith) (omega arith) })

  pub holds_alike : {os os' ws ws' : List ℕ} → SameTags N os os' → SameHolders N ws ws' → (k : ℕ) → k ≤ room → (c : ℕ) → holds N k os' ws' c ≡ holds N k os ws c
  unfolding held_from
  holds_alike tags holders k few c = fun_ext (λ x. any_same k _ _ (λ i h.
      ap₂ (λ (u v : ℕ). eqb u x && has_bit v c) (tags.at i (omega arith) (omega arith)) (holders.at (holder_cell N i) (omega arith) (omega arith))))

  pub written_alike : {os os' : List ℕ} → SameProposals N os os' → (bs : List ℕ) → SameInRun N (written_words N os' bs) (written_words N os bs)
  unfolding letter
  written_alike same bs Proposals s p d w = ap (word_in Proposals) (same.at (proposal_cell N s d) (omega arith) (proposal_in N s d w.slot w.sender))
  written_alike same bs States s p d w = refl
  written_alike same bs Votes s p d w = refl
  written_alike same bs Notices s p d w = refl

  -- messages with the notices that go with them, of replicas that have closed as many slots with the same entries
  pub noting_alike : {closed closed' : ℕ → ℕ} {entry entry' : ℕ → ℕ → ℕ} {m m' : Messages} → ((d : ℕ) → d < n → closed d ≡ closed' d)
      → ((d : ℕ) → d < n → entry d ≡ entry' d) → SameInRun N m m' → SameInRun N (noting closed entry m) (noting closed' entry' m')
  noting_alike counts logs same Proposals s p d w = same Proposals s p d w
  noting_alike counts logs same States s p d w = same States s p d w
  noting_alike counts logs same Votes s p d w = same Votes s p d w
  noting_alike counts logs same Notices s p d w = ap₂ (λ (k : ℕ) (g : ℕ → ℕ). notice_in k s (g s)) (counts d w.sender) (logs d w.sender)

  pub inbox_alike : {ws ws' : List ℕ} {sent sent' : Messages} → SameInRun N sent' sent → SameHeard N ws ws'
      → (c : ℕ) → guarded N (heard_words N sent' ws' c) ≡ guarded N (heard_words N sent ws c)
  inbox_alike said same c = guarded_ext N (λ so s p d w. ap₂ (λ (m : ℕ) (u : Word). if (counts_for c d m) u Unsent)
      (same.at (heard_cell N so s p d) (omega arith) (heard_in N so s p d w)) (said so s p d w))

  pub log_alike : {os os' : List ℕ} → SameLogs N os os' → (c : ℕ) → c < n → log_in N os' c ≡ log_in N os c
  log_alike same c h = below_ext slots 0 (λ s l. same.at (log_cell N c s) (omega arith) (log_in_range N c s h l))
