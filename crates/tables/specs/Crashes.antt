-- "A crash step is lent one controller's record and darkens it there": a crash step on the tables is the crash of the record
-- of the replica that it names, put back in its place.
use Rattle.std.specs.Prelude.{ℕ, ◌+◌, ◌≤◌, ◌<◌, Bool, true, false, List, ◌≡◌, refl, ltb, eqb, length}
use Rattle.std.proofs.Common.{sym, ap}
use Rattle.std.proofs.lemmas.List.{set-get_or}
use borrow.Author.Tests.{ltb-true, ltb-false, le-ltb, le-leb, lt-leb}
use Rattle.tables.specs.Types.{Numbers, ReplicaId, Refusal, Crash, Refused}
use Rattle.model.specs.Tests.{if}
use Rattle.model.specs.TurnedAway.{unless}
use Rattle.model.specs.Limits.{limited}
use Rattle.model.specs.Rules.{own_rule}
use Rattle.model.specs.Scripts.{play, ended}
use Rattle.tables.specs.Layout.{Tables, record_cell, record_end, record_at, record_stored}
use Rattle.tables.specs.View.{only}
use Rattle.tables.specs.Write.{with_words, with_record, write}
use Rattle.tables.specs.Checks.{spoiled}
use Rattle.tables.specs.Calls.{crashed, judge, stepped}

either : {A : Type 0} (b : Bool) → (b ≡ true → A) → (b ≡ false → A) → A
either true h k = h refl
either false h k = k refl

-- a record that is put back as it was
record_back : (ws : List ℕ) (c : ℕ) → record_stored ws c (record_at ws c) ≡ ws
unfolding record_stored record_at
record_back ws c = let i = record_cell c in
    rw (set-get_or ws i 0, set-get_or ws (i + 1) 0, set-get_or ws (i + 2) 0, set-get_or ws (i + 3) 0, set-get_or ws (i + 4) 0, set-get_or ws (i + 5) 0)

module _ (N : Numbers) (strip : List ℕ) (c : ReplicaId) (t : Tables) where
  refused_back : (why : Refusal) → ended (Refused why) t ≡ ended (Refused why) (with_record N c.0 (record_at t.words c.0) t)
  refused_back why = ap (λ (ws : List ℕ). ended (Refused why) (with_words N ws t)) (sym (record_back t.words c.0))

  pub crash_in_place : (c.0 < N.n → record_end c.0 ≤ length t.words)
      → let o = crashed N c.0 (record_at t.words c.0) in
      stepped N strip (record { who = c; act = Crash }) t ≡ ended o.answer (with_record N c.0 o.after t)
  unfolding stepped play judge own_rule crashed write unless only if
  crash_in_place there = let i = c.0 in let k = record_at t.words i in
      either (limited N) (λ a. either (ltb i N.n)
      (λ b. let h = ltb-true i N.n b in let l = there h in
      rw (a, b, le-leb (record_end i) (length t.words) l, le-ltb (length t.words) (record_end i) l, lt-leb N.n i h)
      (either (spoiled N k) (λ s. rw s (refused_back _)) (λ s. rw s (either (eqb k.crashed 0) (λ d. rw d refl) (λ d. rw d (refused_back _))))))
      (λ b. rw (a, b, le-leb N.n i (ltb-false i N.n b)) (refused_back _))) (λ a. rw a (refused_back _))
