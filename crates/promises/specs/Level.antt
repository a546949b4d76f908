-- Document 02, "The conductor": its conditions in the document's words, each proved equal to what its refusal tests.
use Rattle.std.specs.Prelude.{ℕ, zero, suc, ◌+◌, ◌-◌, ◌≤◌, ◌<◌, Bool, true, not, ◌&&◌, ◌||◌, ◌≢◌, ◌≡◌, refl, leb, ltb, eqb}
use Rattle.std.proofs.Common.{arith, sym, ◌∙◌, ap, subst, leb-true, le-leb, ltb-true, lt-ltb, eqb-true, eq-eqb}
use Rattle.std.proofs.Math.Bool.{false}
use Rattle.std.proofs.lemmas.Bool.{eqb-false, not-true, not-false}
use Rattle.tables.specs.Types.{Numbers, Idle, Sort, Proposals, States, Votes, Notices, Unsent}
use Rattle.model.specs.Tests.{if, bit, count, any, listed}
use Rattle.model.specs.Rack.{same_round, is_sent, Rack}
use Rattle.model.specs.Rules.{phase_in, pending, quorum}
use Rattle.model.specs.Conductor.{is_running, running_count, slot_among, common_slot, uneven, spoke, level, pending_somewhere, common_tag}
use Rattle.model.proofs.Cases.{clash, either, and_true, and_both, and_none, or_false, or_none, between_true, same_round_true}
use Rattle.model.proofs.Counting.{any_false, any_nowhere, any_place, any_here}
use Rattle.model.proofs.FirstTag.{first_of_is, first_of_leads}
use Rattle.safety.specs.Below.{fails}
use Rattle.tables.specs.Layout.{Tables}
use Rattle.tables.specs.View.{view}
use Rattle.tables.specs.Addresses.{Within, guarded_sent}
use Rattle.promises.specs.Conditions.{Exactly, not_sent}

-- 23, "too few lit": "below the quota"
pub too_few_running : (N : Numbers) (r : Rack) → Exactly (ltb (running_count N r) (quorum N)) (count N.n (is_running N r) < N.n - N.f)
too_few_running N r = (λ e. ltb-true _ _ e, λ h. lt-ltb _ _ h)

-- "a rack whose L lit controllers are all idle at the same slot, where nobody, dark or lit, has sent a message of that slot"
pub record Level (N : Numbers) (r : Rack) : Type 0 where
  pub idle : (c : ℕ) → c < N.n → is_running N r c ≡ true → (r.at c).round ≡ Idle
  pub one_slot : (c d : ℕ) → c < N.n → d < N.n → is_running N r c ≡ true → is_running N r d ≡ true → (r.at c).closed ≡ (r.at d).closed
  pub silent : (c : ℕ) → c < N.n → is_running N r c ≡ true → (so : Sort) (p d : ℕ) → r.sent so (r.at c).closed p d ≡ Unsent

-- ---- the slot is that of a running replica

record AtSlot (N : Numbers) (r : Rack) (k s : ℕ) : Type 0 where
  who : ℕ
  low : who < k
  running : is_running N r who ≡ true
  there : (r.at who).closed ≡ s

at_slot : (N : Numbers) (r : Rack) (k : ℕ) → 0 < count k (is_running N r) → AtSlot N r k (slot_among N r k)
unfolding count slot_among if
at_slot N r zero l = absurd (omega arith)
at_slot N r (suc k) l = go (is_running N r k) refl l (at_slot N r k)
  where
    go : (b : Bool) → is_running N r k ≡ b → 0 < bit b + count k (is_running N r) → (0 < count k (is_running N r) → AtSlot N r k (slot_among N r k))
        → AtSlot N r (suc k) (if b (r.at k).closed (slot_among N r k))
    go true e l below = record { who = k; low = omega arith; running = e; there = refl }
    go false e l below = let f = below (omega arith) in let h = f.low in record { who = f.who; low = omega arith; running = f.running; there = f.there }

-- ---- 22, "not level": "if the starting condition fails"

module _ (N : Numbers) (t : Tables) where
  open N use {n, slots, phases}

  abbrev pub r : Rack
  r = view N t

  -- what nobody of the run has sent, nobody has
  module _ (s : ℕ) (none : any n (spoke N r s) ≡ false) where
    unheard : (so : Sort) (p d : ℕ) → Within N so s p d → is_sent (r.sent so s p d) ≡ false
    unfolding phase_in
    unheard so p d w =
        go so p w.phase (or_false (is_sent (r.sent Proposals s 0 d) || is_sent (r.sent Notices s 0 d)) _ (any_false n _ none d w.sender))
      where
        early : (is_sent (r.sent Proposals s 0 d) || is_sent (r.sent Notices s 0 d)) ≡ false
            → (is_sent (r.sent Proposals s 0 d) ≡ false) × (is_sent (r.sent Notices s 0 d) ≡ false)
        early e = or_false _ _ e

        late : (p : ℕ) → phase_in N States p ≡ true → any phases (λ p. is_sent (r.sent States s (suc p) d) || is_sent (r.sent Votes s (suc p) d)) ≡ false
            → (is_sent (r.sent States s p d) ≡ false) × (is_sent (r.sent Votes s p d) ≡ false)
        late zero i e = let (a, b) = between_true 1 phases 0 i in absurd (omega arith)
        late (suc p) i e = let (a, b) = between_true 1 phases (suc p) i in
            or_false (is_sent (r.sent States s (suc p) d)) _ (any_false phases _ e p (omega arith))

        go : (so : Sort) (p : ℕ) → phase_in N so p ≡ true
            → ((is_sent (r.sent Proposals s 0 d) || is_sent (r.sent Notices s 0 d)) ≡ false)
            × (any phases (λ p. is_sent (r.sent States s (suc p) d) || is_sent (r.sent Votes s (suc p) d)) ≡ false)
            → is_sent (r.sent so s p d) ≡ false
        go Proposals p i e = rw (eqb-true p 0 i) (early e.0).0
        go States p i e = (late p i e.1).0
        go Votes p i e = (late p i e.1).1
        go Notices p i e = rw (eqb-true p 0 i) (early e.0).1

    nobody_spoke : (so : Sort) (p d : ℕ) → r.sent so s p d ≡ Unsent
    nobody_spoke so p d = (not_sent _).0 (ap not (either (is_sent (r.sent so s p d)) (λ e. unheard so p d (guarded_sent N _ e)) (λ e. e)))

  module _ (some : 0 < running_count N r) where
    abbrev pub s : ℕ
    s = common_slot N r

    abbrev first : AtSlot N r n s
    first = at_slot N r n some

    -- what the test says of each running replica
    even : level N r s ≡ true → (c : ℕ) → c < n → is_running N r c ≡ true → ((r.at c).round ≡ Idle) × ((r.at c).closed ≡ s)
    even e c l on =
        let none = any_false n (uneven N r s) (not-true _ (and_true (not (any n (uneven N r s))) _ e).0) c l in
        let (a, b) = and_true (same_round (r.at c).round Idle) _ (not-false _ (fails (is_running N r c) _ on none)) in
        (same_round_true _ Idle a, eqb-true _ _ b)

    pub is_level : level N r s ≡ true → Level N r
    is_level e = record {
      idle = λ c l on. (even e c l on).0;
      one_slot = λ c d l m on also. (even e c l on).1 ∙ sym (even e d m also).1;
      silent = λ c l on so p d. rw (even e c l on).1 (nobody_spoke s (not-true _ (and_true (not (any n (uneven N r s))) _ e).1) so p d);
    }

    pub all_even : Level N r → any n (uneven N r s) ≡ false
    all_even h = any_nowhere n _ (λ c l. either (is_running N r c)
        (λ on. and_none (is_running N r c) _ (ap not (and_both (same_round (r.at c).round Idle) _ (ap (λ a. same_round a Idle) (h.idle c l on))
        (eq-eqb _ _ (h.one_slot c first.who l first.low on first.running ∙ first.there)))))
        (λ off. ap (λ (b : Bool). b && not (same_round (r.at c).round Idle && eqb (r.at c).closed s)) off))

    pub all_silent : Level N r → any n (spoke N r s) ≡ false
    all_silent h = any_nowhere n _ (λ d l. or_none _ _ (or_none _ _ (unsent Proposals 0 d) (unsent Notices 0 d))
        (any_nowhere phases _ (λ p m. or_none _ _ (unsent States (suc p) d) (unsent Votes (suc p) d))))
      where
        unsent : (so : Sort) (p d : ℕ) → is_sent (r.sent so s p d) ≡ false
        unsent so p d = ap is_sent (ap (λ (u : ℕ). r.sent so u p d) (sym first.there) ∙ h.silent first.who first.low first.running so p d)

    -- 11, "log full": where the rack is level, each running replica has closed all slots
    pub logs_full : Level N r → Exactly (leb slots s) ((c : ℕ) → c < n → is_running N r c ≡ true → slots ≤ (r.at c).closed)
    logs_full h = (
      λ e c l on. let same = h.one_slot c first.who l first.low on first.running ∙ first.there in rw same (leb-true _ _ e),
      λ all. le-leb slots s (subst (λ (u : ℕ). slots ≤ u) first.there (all first.who first.low first.running)),
    )

-- 12, "nothing pending": at no running replica; "known tags of 0 are passed over"
pub pending_nowhere : (N : Numbers) (r : Rack) → Exactly (eqb (common_tag N r) 0)
    ((c x : ℕ) → c < N.n → is_running N r c ≡ true → listed x r.known ≡ true → x ≢ 0 → pending (r.at c) x ≡ false)
pending_nowhere N r = (
  λ e c x l on known ne. either (pending (r.at c) x)
      (λ q. absurd ((first_of_leads (pending_somewhere N r) r.known x known (any_here N.n _ c l (and_both _ _ on q)) ne).0 (eqb-true _ _ e))) (λ q. q),
  λ none. either (eqb (common_tag N r) 0) (λ e. e) (λ e.
      let ne = eqb-false _ _ e in
      let p = first_of_is (pending_somewhere N r) r.known ne in
      let (c, l, both) = any_place N.n _ p.passes in
      let (on, q) = and_true (is_running N r c) _ both in clash (sym (none c _ l on p.among ne) ∙ q)),
)
