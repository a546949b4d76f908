-- What holds of the conductor in a run, wherever it is not turned away: of the rack that it takes, the rack that it leaves and
-- its answer. The statement alone: proofs/Theorems proves it of the history, specs/OnTables of the tables.
use Rattle.std.specs.Prelude.{ℕ, suc, ◌+◌, ◌*◌, ◌<◌, true, false, ◌≡◌}
use Rattle.tables.specs.Types.{Numbers, Idle, Sort, Answer, Conducted}
use Rattle.model.specs.Tests.{set, count}
use Rattle.model.specs.Rack.{Rack}
use Rattle.model.specs.Rules.{ahead, pending}
use Rattle.model.specs.Conductor.{is_running, running_count, common_slot, common_tag, lacks}

module _ (N : Numbers) (before : Rack) where
  open N use {n}

  abbrev L : ℕ
  L = running_count N before

  abbrev s : ℕ
  s = common_slot N before

  abbrev x : ℕ
  x = common_tag N before

  -- Document 02, Point 3: "In a run from an accepted opening it closes the slot with that tag at all lit controllers in exactly
  -- 3L² + L of the rules' steps besides at most L − 1 relays"
  pub record Conducts (after : Rack) (answer : Answer) : Type 0 where
    -- "It relays the smallest tag pending at any lit controller", now "the first-ranked tag": it is pending at one, and none that
    -- is pending at one is ahead of it
    pub tag_pending : (c : ℕ) × (c < n) × (is_running N before c ≡ true) × (pending (before.at c) x ≡ true)
    pub tag_first : (c y : ℕ) → c < n → is_running N before c ≡ true → pending (before.at c) y ≡ true → ahead y x ≡ false
    -- "It answers both counts": 3L² + L steps, and the relays "to the lit ones that lack it", which are not all
    pub answered : answer ≡ Conducted (3 * (L * L) + L) (count n (lacks N before x))
    pub few_relays : count n (lacks N before x) < L
    -- "it closes the slot with that tag at all lit controllers": they were all at that slot, and are idle behind it, with the rest
    -- of their logs as it was
    pub slot_before : (c : ℕ) → c < n → is_running N before c ≡ true → (before.at c).closed ≡ s
    pub slot_after : (c : ℕ) → c < n → is_running N before c ≡ true → (after.at c).closed ≡ suc s
    pub tag_logged : (c : ℕ) → c < n → is_running N before c ≡ true → (after.at c).entry s ≡ x
    pub log_after : (c : ℕ) → c < n → is_running N before c ≡ true → (after.at c).entry ≡ set s x (before.at c).entry
    pub idle_after : (c : ℕ) → c < n → is_running N before c ≡ true → (after.at c).round ≡ Idle
    pub running_after : (c : ℕ) → c < n → is_running N before c ≡ true → is_running N after c ≡ true
    -- the others are as they were, and so are what they have sent and the known tags
    pub crashed_alone : (c : ℕ) → is_running N before c ≡ false → after.at c ≡ before.at c
    pub crashed_silent : (c : ℕ) → is_running N before c ≡ false → (so : Sort) (s p : ℕ) → after.sent so s p c ≡ before.sent so s p c
    pub known_alone : after.known ≡ before.known
