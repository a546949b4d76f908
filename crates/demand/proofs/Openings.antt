-- Openings: an accepted one leaves tables that stand for the start of a history, a refused one changes nothing.
use Rattle.std.specs.Prelude.{ℕ, ◌≤◌, ◌<◌, true, false, not, List, ◌≡◌, get_or}
use native.Mathlib.Omega.{arith}
use Rattle.std.proofs.Math.Path.{ap}
use Rattle.std.proofs.Common.{◌∙◌}
use Rattle.std.proofs.Math.ListN.{take}
use borrow.Author.Tests.{le-ltb, not-false}
use Rattle.tables.specs.Types.{Numbers, Plan, Idle, Proposals, States, Votes, Notices}
use Rattle.tables.specs.Types.{Word, Unsent, Opened}
use Rattle.tables.specs.declared.Record.{Record}
use Rattle.model.specs.Tests.{if}
use Rattle.model.specs.Limits.{limited, planned}
use Rattle.model.specs.Rack.{Messages, silence, no_counts, fresh_replica, start}
use Rattle.model.proofs.Cases.{round_back, and_true, or_false, Unmet, unless_ind}
use Rattle.safety.specs.Invariant.{start_invariant}
use Rattle.tables.specs.Layout.{Tables, heard_cell, words_need, orders_need, ballots_need}
use Rattle.tables.specs.View.{counts_for, sent_words, heard_words}
use Rattle.tables.specs.View.{replica_in, replica_at, view}
use Rattle.tables.specs.Checks.{lengths, long, misplaced}
use Rattle.tables.specs.Calls.{cleared, opened, OpenOutcome, opening_refusals, open_rack}
use Rattle.tables.specs.Bounds.{bounds}
use Rattle.tables.proofs.Sound.{moved_fine}
use Rattle.tables.specs.Notices.{notice_no}
use Rattle.demand.specs.Cells.{if_same, below_ext, below_none, SameInRun, guarded_silence}
use Rattle.demand.specs.Linked.{Linked}
use Rattle.demand.specs.Openings.{apart, found, held_none, known_none, log_none, opened_parts, record_none, written_none}

module _ (N : Numbers) (t : Tables) where
  open N use {n, slots, phases, room}

  -- ---- what they stand for

  abbrev cleared_record : Record
  cleared_record = record { crashed = 0; round = 0; slot = 0; phase = 0; empty = 0; fast = 0 }

  module _ (some : 1 ≤ phases) where
    abbrev words : Messages
    words = sent_words N (cleared N (words_need N) t.words) (cleared N (orders_need N) t.orders) (cleared N (ballots_need N) t.ballots)

    words_none : SameInRun N words silence
    words_none Proposals s p d w = written_none N t some Proposals s p d w
    words_none States s p d w = written_none N t some States s p d w
    words_none Votes s p d w = written_none N t some Votes s p d w
    words_none Notices s p d w = let none = ap (λ (k : Record). k.slot) (record_none N t d w.sender) in notice_no _ s _ (omega arith)

    heard_none : (c : ℕ) → SameInRun N (heard_words N words (cleared N (words_need N) t.words) c) silence
    heard_none c so s p d w =
        ap (λ (v : Word). if (counts_for c d (get_or (cleared N (words_need N) t.words) (heard_cell N so s p d) 0)) v Unsent) (words_none so s p d w)
        ∙ if_same _ Unsent

    replica_none : (c : ℕ) → c < n → replica_at N (opened N t) c ≡ fresh_replica
    unfolding opened
    replica_none c h = (λ i. replica_in N (record_none N t c h i) (log_none N t c h i) (held_none N t some c i) (guarded_silence N (heard_none c) i))
        ∙ (λ i. record {
          crashed = false;
          round = round_back Idle i;
          closed = 0;
          phase = 0;
          counts = no_counts;
          entry = λ s. 0;
          held = λ x. false;
          inbox = silence;
        })

    opened_view : view N (opened N t) ≡ start
    unfolding opened start
    opened_view = λ i. record {
      known = ap (λ (k : ℕ). take k (opened N t).orders) (known_none N t) i;
      sent = guarded_silence N words_none i;
      at = (below_ext n fresh_replica replica_none ∙ below_none n fresh_replica) i;
    }

  opened_linked : limited N ≡ true → long N (lengths t) ≡ true → Linked N t (opened N t) start
  unfolding opened misplaced
  opened_linked limits e = record {
    same_view = opened_view (bounds N limits).phases_some;
    parts = opened_parts N t (found N t e);
    room_enough = let z = known_none N t in omega arith;
    unspoiled = λ c h. rw (record_none N t c h) (moved_fine N Idle 0 0 cleared_record (le-ltb slots 0 (omega arith)) (omega arith, omega arith));
    invariant = start_invariant N;
  }

module _ (q : Plan) (t : Tables) (strip : List ℕ) where
  abbrev Starts : OpenOutcome → Type 0
  Starts o = o.answer ≡ Opened (planned q) → (limited (planned q) ≡ true) × Linked (planned q) t o.tables start

  pub accepted_opening : Starts (open_rack q t strip)
  unfolding open_rack Unmet
  accepted_opening = let N = planned q in unless_ind Starts (opening_refusals q t strip) (λ why e. absurd (apart e)) (λ u _.
      let limits = (and_true (limited N) _ (not-false _ u.0)).0 in
      (limits, opened_linked N t limits (not-false _ (or_false (not (long N (lengths t))) _ u.1.0).0)))
