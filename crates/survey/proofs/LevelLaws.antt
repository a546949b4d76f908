-- Whether a rack is level: one law for each way out of the code.
use Prim.Native.Nat.{ℕ, suc, ◌+◌, ◌≤◌, ◌<◌}
use native.Mathlib.Numerals.{add-one}
use mathlib.Core.Bool.{Bool, true, false, not, ◌||◌}
use mathlib.Core.List.{List}
use mathlib.Core.Path.{◌≡◌, refl, sym, ◌∙◌, ap}
use lib.Dec.{ltb}
use Rattle.model.specs.declared.Numbers.{Numbers}
use Rattle.model.specs.declared.Sort.{Sort}
use Rattle.model.specs.declared.Sort.TheVariants.{Proposals, States, Votes, Notices}
use Rattle.model.specs.declared.Word.{Word}
use Rattle.model.specs.Tests.{any}
use Rattle.model.specs.Rack.{is_sent, Messages, Rack}
use Rattle.model.specs.Rules.{phase_in}
use Rattle.model.specs.Conductor.{uneven, spoke, level}
use Rattle.model.proofs.Branches.{told, if-false}
use Rattle.model.proofs.Cases.{and_none, or_none}
use Rattle.model.proofs.Counting.{any_nowhere, any_same}
use Rattle.tables.specs.Layout.{has_row, record_at}
use Rattle.tables.specs.View.{in_run, guarded, sent_words}
use Rattle.tables.specs.Addresses.{Within, guarded_at, state_in, as_vote}
use Rattle.survey.specs.Standing.{uneven_record, balloted}
use Rattle.survey.proofs.SeenLaws.{seen, uneven_seen}

-- ---- a message of the slot

module _ {N : Numbers} {s d : ℕ} (low : s < N.slots) (there : d < N.n) where
  pub of_proposals : Within N Proposals s 0 d
  unfolding phase_in
  of_proposals = record { sender = there; slot = low; phase = refl }

  pub of_states : {p : ℕ} → 1 ≤ p → p ≤ N.phases → Within N States s p d
  of_states {p} some few = record { sender = there; slot = low; phase = state_in N p some few }

pub of_votes : {N : Numbers} {s p d : ℕ} → Within N States s p d → Within N Votes s p d
of_votes {N} w = record { sender = w.sender; slot = w.slot; phase = as_vote N _ w.phase }

pub sent_seen : {N : Numbers} {so : Sort} {s p d : ℕ} (ws os bs : List ℕ) {w : Word} {b : Bool} → Within N so s p d → w ≡ sent_words N ws os bs so s p d
    → b ≡ is_sent w → b ≡ is_sent ((seen N ws os bs).sent so s p d)
sent_seen {N} ws os bs within word is = is ∙ ap is_sent (word ∙ sym (guarded_at N _ within))

-- ---- what one sender has sent

-- in the phase behind i
pub behind : (sent : Messages) (s d i : ℕ) {b : Bool} → b ≡ (is_sent (sent States s (i + 1) d) || is_sent (sent Votes s (i + 1) d)) → b ≡ balloted sent s d i
behind sent s d i e = e ∙ rw (add-one i)

-- ---- the rack

module _ (N : Numbers) (s : ℕ) (ws os bs : List ℕ) where
  abbrev rack : Rack
  rack = seen N ws os bs

  -- nothing is sent of a slot that has no row
  silent : has_row N s ≡ false → any N.n (spoke N rack s) ≡ false
  unfolding guarded in_run
  silent e = any_nowhere N.n _ (λ d _. or_none _ _ (or_none _ _ (unsent Proposals 0 d) (unsent Notices 0 d))
      (any_nowhere N.phases _ (λ p _. or_none _ _ (unsent States (suc p) d) (unsent Votes (suc p) d))))
    where
      unsent : (so : Sort) (p d : ℕ) → is_sent (rack.sent so s p d) ≡ false
      unsent so p d = ap is_sent (if-false _ _ (and_none (ltb d N.n) _ (rw e)))

  module _ {one-uneven : Bool} (is : one-uneven ≡ any N.n (λ c. uneven_record s (record_at ws c))) where
    uneven_is : {b : Bool} → one-uneven ≡ b → any N.n (uneven N rack s) ≡ b
    uneven_is e = sym (any_same N.n _ _ (λ c there. uneven_seen N ws os bs there s)) ∙ told is e

    pub level_not : one-uneven ≡ true → false ≡ level N rack s
    level_not e = sym (rw (uneven_is e))

    pub level_past : one-uneven ≡ false → has_row N s ≡ false → true ≡ level N rack s
    level_past e q = sym (rw (uneven_is e, silent q))

    pub level_silent : {b : Bool} → one-uneven ≡ false → b ≡ any N.n (spoke N rack s) → not b ≡ level N rack s
    level_silent e q = ap not q ∙ sym (rw (uneven_is e))
