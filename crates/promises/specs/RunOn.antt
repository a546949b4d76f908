-- A run on ends on any memories, damaged ones too: each advance that goes on brings its replica nearer to the end of its slot.
use Prim.Native.Nat.{ℕ, suc, ◌+◌, ◌*◌, ◌<◌, ◌≤◌}
use native.Mathlib.Omega.{arith}
use Rattle.std.specs.Prelude.{true, List, ◌≡◌, length, set as store_at}
use Rattle.std.proofs.Math.Path.{refl, sym, ap}
use Rattle.std.proofs.Common.{◌∙◌, length-set}
use Rattle.tables.specs.declared.Record.{Record}
use Rattle.tables.specs.Types.{Numbers, ReplicaId, Round, State, Vote, Find, Effect, Advance}
use Rattle.model.specs.Rack.{round_in, Replica}
use Rattle.model.specs.Scripts.{play, advance, goes_on, running, RunsOn, most_advances}
use Rattle.model.proofs.Cases.{round_back, clash, unless_ind, unmet_both}
use Rattle.model.proofs.Playing.{run_ends, run_enough, run_further}
use Rattle.safety.specs.Comes.{ByRule, by_notice, by_exchange, by_state, by_outcome_0, by_outcome_1, by_seek, by_next_phase}
use Rattle.safety.specs.Comes.{by_find}
use Rattle.safety.proofs.Comes.{past}
use Rattle.safety.specs.RunOn.{left, left_below}
use Rattle.tables.specs.Layout.{Tables, record_end, record_at}
use Rattle.tables.specs.View.{view}
use Rattle.tables.specs.Records.{same_record}
use Rattle.tables.specs.Write.{moved, with_change, write}
use Rattle.tables.specs.Calls.{lent_refusals, judge, performed, on_tables, ran_on}
use Rattle.tables.specs.Sound.{Sound, lent_sound, record_there, own_view}
use Rattle.promises.specs.Order.{step_refusals}

module _ (N : Numbers) (strip : List ℕ) (c : ReplicaId) where
  -- the advances that are left to the replica, by its record
  abbrev left_in : List ℕ → ℕ
  left_in ws = let k = record_at ws c.0 in left N (round_in k.round) k.phase

  abbrev left_on : Tables → ℕ
  left_on t = left_in t.words

  moved_left : (ws : List ℕ) (a : Round) (s p : ℕ) → record_end c.0 ≤ length ws → left_in (with_change ws c.0 (moved a s p)) ≡ left N a p
  moved_left ws a s p l =
      ap (λ (k : Record). left N (round_in k.round) k.phase) (same_record ws c.0 _ l) ∙ ap (λ (a : Round). left N a p) (round_back a)

  -- the same where a mark was stored first
  sent_left : (ws : List ℕ) (i v : ℕ) (a : Round) (s p : ℕ) → record_end c.0 ≤ length ws
      → left_in (with_change (store_at ws i v) c.0 (moved a s p)) ≡ left N a p
  sent_left ws i v a s p l = moved_left (store_at ws i v) a s p (rw length-set l)

  module _ (t : Tables) where
    abbrev Fewer : Effect → Type 0
    Fewer e = goes_on e ≡ true → left_on (write N c.0 e t) < left_on t

    module _ (fine : Sound N t) (here : c.0 < N.n) where
      as_read : left_on t ≡ left N ((view N t).at c.0).round ((view N t).at c.0).phase
      as_read = ap (λ (k : Replica). left N k.round k.phase) (sym (own_view N t here))

      there : record_end c.0 ≤ length t.words
      there = record_there N fine here

      by_rule : {e : Effect} → ByRule N (view N t) ((view N t).at c.0) Advance e → Fewer e
      unfolding write left
      by_rule (by_notice heard) g = clash g
      by_rule (by_exchange was q) g = rw (sent_left t.words _ _ State _ 1 there, as_read, was) (omega arith)
      by_rule (by_state was q) g = rw (sent_left t.words _ _ Vote _ _ there, as_read, was) (omega arith)
      by_rule (by_outcome_0 v e) g = clash g
      by_rule (by_outcome_1 v e ne) g = clash g
      by_rule (by_seek v e z) g = rw (moved_left t.words Find _ _ there, as_read, v.in_round) (omega arith)
      by_rule (by_next_phase flip v e l) g = rw (sent_left t.words _ _ State _ _ there, as_read, v.in_round) (omega arith)
      by_rule (by_find was ne) g = clash g

  fewer : (t : Tables) → goes_on (judge N strip (advance c) t) ≡ true → left_on (performed N strip (advance c) t) < left_on t
  unfolding judge
  fewer t = unless_ind (Fewer t) (step_refusals N strip (advance c) t) (λ why g. clash g) (λ u.
      let (lent, rest) = unmet_both (lent_refusals N (advance c) t) _ u in
      let (acts, rule) = past N (view N t) strip (advance c) rest in
      by_rule t (lent_sound N (advance c) t refl lent) acts.there rule)

  -- the definition's bound is never met: "advance repeatedly until a slot is closed or the next advance is refused"
  pub run_on_stops : (t : Tables) → RunsOn (on_tables N strip) c 0 t (ran_on N strip c t)
  unfolding ran_on
  run_on_stops t = run_ends (on_tables N strip) c left_on fewer (most_advances N) 0 t (left_below N _ _)

  -- after a first advance that goes on, any bound that is as large does
  pub run_on_further : (t : Tables) (more : ℕ) → most_advances N ≤ more → goes_on (judge N strip (advance c) t) ≡ true
      → play (on_tables N strip) (running c more 1) (performed N strip (advance c) t) ≡ ran_on N strip c t
  unfolding ran_on
  run_on_further t more enough g =
      let less = fewer t g in
      let low = left_below N (round_in (record_at t.words c.0).round) (record_at t.words c.0).phase in
      let first : suc (2 * N.phases + 4) ≡ most_advances N = omega arith in
      run_enough (on_tables N strip) c left_on fewer more (2 * N.phases + 4) 1 (performed N strip (advance c) t) (omega arith) (omega arith)
      ∙ sym (run_further (on_tables N strip) c (2 * N.phases + 4) 0 t g) ∙ ap (λ (most : ℕ). play (on_tables N strip) (running c most 0) t) first
