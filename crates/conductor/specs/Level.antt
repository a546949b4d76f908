-- A rack that the conductor takes, in a run: what its refusals leave, and that after the relays every running replica would
-- propose the tag.
use Rattle.std.specs.Prelude.{ℕ, ◌+◌, ◌≤◌, ◌<◌, true, false, ◌&&◌, ◌||◌, List, [], ◌∷◌, ◌≢◌, ◌≡◌, eqb}
use Rattle.std.proofs.Common.{arith, sym, ◌∙◌}
use Rattle.std.proofs.Math.Bool.{not}
use Rattle.std.proofs.Math.Path.{refl, ap}
use borrow.Author.Tests.{eqb-true, eqb-false, leb-false, ltb-false, not-true, not-false}
use Rattle.tables.specs.Types.{Numbers, Idle, Sort, Proposals, States, Votes, Notices, Word, Unsent, Tag, Say, Unsure, ShortTable}
use Rattle.model.specs.Tests.{any, listed}
use Rattle.model.specs.Rack.{same_round, sort_number, is_sent, Rack}
use Rattle.model.specs.TurnedAway.{◌when◌}
use Rattle.model.specs.Rules.{logged, pending, quorum, strip_short}
use Rattle.model.specs.Conductor.{is_running, running_count, common_slot, uneven, spoke, pending_somewhere, common_tag, conduct_refusals}
use Rattle.model.proofs.Cases.{clash, and_true, or_false, Unmet, same_round_true}
use Rattle.model.proofs.Counting.{any_false, any_place, any_same}
use Rattle.model.proofs.FirstTag.{first_of_is}
use Rattle.safety.specs.Claims.{LongStrip}
use Rattle.safety.specs.Below.{fails}
use Rattle.safety.proofs.Entries.{same_entry}
use Rattle.safety.specs.Invariant.{Invariant}
use Rattle.conductor.specs.Rounds.{phase_of}

unsent_word : (w : Word) → is_sent w ≡ false → w ≡ Unsent
unsent_word = elim [ Unsent ↦ λ e. refl | Tag y ↦ λ e. clash (sym e) | Say v ↦ λ e. clash (sym e) | Unsure ↦ λ e. clash (sym e) ]

pub sort_some : (so : Sort) → 0 < sort_number so
sort_some = elim [ Proposals ↦ omega arith | States ↦ omega arith | Votes ↦ omega arith | Notices ↦ omega arith ]

module _ (N : Numbers) (r : Rack) (strip : List ℕ) where
  open N use {n, f, slots, phases}

  abbrev pub s : ℕ
  s = common_slot N r

  abbrev pub x : ℕ
  x = common_tag N r

  -- what is so in a run where the conductor is not turned away
  pub record Level : Type 0 where
    pub fits : f + f + 1 ≤ n
    pub a_phase : 1 ≤ phases
    pub invariant : Invariant N r
    pub long : LongStrip N strip
    pub enough : quorum N ≤ running_count N r
    pub in_log : s < slots
    pub a_tag : x ≢ 0
    pub even : (c : ℕ) → c < n → is_running N r c ≡ true → ((r.at c).round ≡ Idle) × ((r.at c).closed ≡ s)
    pub silent : (d : ℕ) → d < n → spoke N r s d ≡ false

  pub is_level : f + f + 1 ≤ n → 1 ≤ phases → Invariant N r → Unmet (ShortTable when strip_short N strip ∷ []) → Unmet (conduct_refusals N r) → Level
  unfolding Unmet
  is_level fits a_phase inv (short, _) (few, (bumpy, (full, (none, _)))) =
      let (flat, quiet) = and_true (not (any n (uneven N r s))) _ (not-false _ bumpy) in
      record {
        fits = omega arith;
        a_phase = omega arith;
        invariant = inv;
        long = ltb-false _ _ short;
        enough = omega (arith, ltb-false (running_count N r) (quorum N) few);
        in_log = leb-false _ _ full;
        a_tag = eqb-false _ _ none;
        even = λ c l on. let (a, b) = and_true (same_round (r.at c).round Idle) _
            (not-false _ (fails (is_running N r c) _ on (any_false n (uneven N r s) (not-true _ flat) c l))) in (same_round_true _ _ a, eqb-true _ _ b);
        silent = any_false n (spoke N r s) (not-true _ quiet);
      }

  module _ (level : Level) where
    -- ---- nothing of the slot was sent, so nothing of it was heard

    pub unsent : (so : Sort) (d : ℕ) → d < n → r.sent so s (phase_of so) d ≡ Unsent
    unsent so d l =
        let (once, ballots) = or_false (is_sent (r.sent Proposals s 0 d) || is_sent (r.sent Notices s 0 d)) _ (level.silent d l) in
        let (a, b) = or_false (is_sent (r.sent Proposals s 0 d)) _ once in
        let (v, w) = or_false (is_sent (r.sent States s 1 d)) _ (any_false phases _ ballots 0 (omega (arith, level.a_phase))) in
        unsent_word _ (elim so as (λ k. is_sent (r.sent k s (phase_of k) d) ≡ false) [ Proposals ↦ a | States ↦ v | Votes ↦ w | Notices ↦ b ])

    -- ---- the tag is in no log

    -- where it is pending
    pub holder : (c : ℕ) × (c < n) × ((is_running N r c && pending (r.at c) x) ≡ true)
    holder = any_place n _ (first_of_is (pending_somewhere N r) r.known level.a_tag).passes

    pub tag_known : listed x r.known ≡ true
    tag_known = (first_of_is (pending_somewhere N r) r.known level.a_tag).among

    pub same_log : (c d : ℕ) → c < n → d < n → is_running N r c ≡ true → is_running N r d ≡ true → (y : ℕ) → logged (r.at c) y ≡ logged (r.at d) y
    same_log c d l l' on on' y =
        let p = (level.even c l on).1 in
        let q = (level.even d l' on').1 in
        ap (λ (k : ℕ). any k (λ t. eqb ((r.at c).entry t) y)) (p ∙ sym q)
        ∙ any_same (r.at d).closed _ _ (λ t h. ap (λ (z : ℕ). eqb z y) (same_entry N (omega (arith, level.fits)) r level.invariant c d t (omega arith) h))
