-- Where a replica of a run stands: its round, slot and phase go together, and it has sent all messages of its slot that it
-- has come past. specs/Invariant tells what it has not sent; this is the other half, by which no run is ever stuck.
use Rattle.std.specs.Prelude.{◌<◌}
use Rattle.std.proofs.Math.Decide.{ℕ_discrete}
use Rattle.std.proofs.Common.{◌∙◌, ap, subst}
use Rattle.model.specs.Tests.{set}
use Rattle.model.specs.Rack.{Messages, put, Replica, sending}
use Rattle.model.proofs.Cases.{set-ind}
use Rattle.std.specs.Prelude.{ℕ, suc, ◌≤◌, true, ◌≢◌, ◌≡◌}
use native.Mathlib.Omega.{arith}
use Rattle.std.proofs.Math.Path.{refl}
use Rattle.safety.specs.Types.{Numbers, Round, Idle, Exchange, State, Vote, Find, Sort, Proposals, States, Votes, Word}
use Rattle.safety.specs.Types.{Effect, Send, Close, Act}
use Rattle.model.specs.Rack.{is_sent, silence, Rack, start, apply}
use Rattle.model.proofs.Cases.{round_apart, put_same}
use Rattle.safety.specs.Grow.{Grows}
use Rattle.safety.specs.Comes.{ByRule, by_submit, by_relay, by_begin, by_hear, by_exchange, by_state, by_outcome_0}
use Rattle.safety.specs.Comes.{by_outcome_1, by_seek, by_next_phase, by_find, by_notice, by_crash}
use Rattle.safety.specs.Invariant.{progress, place, Invariant, notifier}
use Rattle.safety.specs.Steady.{Bid, Due, Stands, Steady, SteadyRack, bid_grows, due_phased, idles, one_place, sent_grows, vote_sent}

module _ (N : Numbers) where
  open N use {slots, phases}

  pub start_steady : SteadyRack N start
  unfolding start
  start_steady c = idles N silence c 0 0 (omega arith)

  module _ (some : 1 ≤ phases) (r : Rack) (inv : Invariant N r) (old : SteadyRack N r) (c : ℕ) where
    -- replica c has another record, and the board has grown
    changed : {m : Messages} (k : Replica) → Grows r.sent m → Stands N m c k → (d : ℕ) → Stands N m d (set c k r.at d)
    changed {m} k g new d = set-ind (Stands N m d) c r.at d (λ e. rw e new) (λ _. let was = old d in record {
      low = was.low;
      within = was.within;
      phased = was.phased;
      bid = λ ne. bid_grows N (r.at d).closed d g (was.bid ne);
      so_far = λ so p due l. sent_grows N g so (r.at d).closed p d (was.so_far so p due l);
    })

    module _ {a : Round} (was : (r.at c).round ≡ a) where
      stood : Steady N r.sent c a (r.at c).closed (r.at c).phase
      stood = subst (λ (a : Round). Steady N r.sent c a (r.at c).closed (r.at c).phase) was (old c)

      -- the message that comes next is sent
      sender : (so : Sort) (p : ℕ) (w : Word) → place so p ≡ suc (progress a (r.at c).phase) → Due N so p → is_sent w ≡ true → (r.at c).closed < slots
          → (let m = put so (r.at c).closed p c w r.sent in Grows r.sent m → Bid N m (r.at c).closed c → Stands N m c (sending c so p w (r.at c)))
      sender so p w next due sent low g bid = record {
        low = omega arith;
        within = λ _. low;
        phased = due_phased N so p due;
        bid = λ _. bid;
        so_far = λ so' p' due' l. go so' p' due' l (ℕ_discrete (place so p) (place so' p'));
      }
        where
          m : Messages
          m = put so (r.at c).closed p c w r.sent

          go : (so' : Sort) (p' : ℕ) → Due N so' p' → place so' p' ≤ place so p → Dec (place so p ≡ place so' p') → is_sent (m so' (r.at c).closed p' c) ≡ true
          go so' p' due' l (yes e) = let (i, j) = one_place N so so' p p' due due' e in
              rw (← i, ← j) (ap is_sent (put_same so (r.at c).closed p c w r.sent) ∙ sent)
          go so' p' due' l (no ne) = sent_grows N g so' (r.at c).closed p' c (stood.so_far so' p' due' (omega arith))

      -- in a round, so its order was proposed before
      goes_on : a ≢ Idle → (so : Sort) (p : ℕ) (w : Word) → place so p ≡ suc (progress a (r.at c).phase) → Due N so p → is_sent w ≡ true
          → Grows r.sent (apply c (Send so p w) r).sent → SteadyRack N (apply c (Send so p w) r)
      unfolding apply
      goes_on busy so p w next due sent g =
          changed _ g (sender so p w next due sent (stood.within busy) g (bid_grows N (r.at c).closed c g (stood.bid busy)))

      closer : a ≢ Idle → (x : ℕ) → Grows r.sent (apply c (Close x true) r).sent → SteadyRack N (apply c (Close x true) r)
      unfolding apply
      closer busy x g = changed _ g (idles N _ c (suc (r.at c).closed) (r.at c).phase (stood.within busy))

    pub rule_steady : {a : Act} {e : Effect} → ByRule N r (r.at c) a e → Grows r.sent (apply c e r).sent → SteadyRack N (apply c e r)
    unfolding apply progress
    rule_steady (by_submit a b d) g = changed _ g (old c)
    rule_steady (by_relay a b d) g = changed _ g (old c)
    rule_steady (by_begin was low ne) g = changed _ g
        (sender was Proposals 0 _ refl refl refl low g (_, ne, put_same Proposals (r.at c).closed 0 c _ r.sent))
    rule_steady (by_hear so a b d e h) g = changed _ g (old c)
    rule_steady (by_exchange was q) g = goes_on was (round_apart Exchange Idle refl) States 1 _ refl (omega arith, omega arith) refl g
    rule_steady (by_state was q) g = goes_on was (round_apart State Idle refl) Votes _ _ (omega arith) (stood was).phased (vote_sent N (r.at c)) g
    rule_steady (by_outcome_0 v e) g = closer v.in_round (round_apart Vote Idle refl) _ g
    rule_steady (by_outcome_1 v e ne) g = closer v.in_round (round_apart Vote Idle refl) _ g
    rule_steady (by_seek v e z) g = let was = stood v.in_round in let busy = round_apart Vote Idle refl in
        changed _ g (record { low = was.low; within = λ _. was.within busy; phased = tt; bid = λ _. was.bid busy; so_far = was.so_far })
    rule_steady (by_next_phase flip v e l) g = goes_on v.in_round (round_apart Vote Idle refl) States _ _ (omega arith) (omega arith, omega arith) refl g
    rule_steady (by_find was ne) g = closer was (round_apart Find Idle refl) _ g
    rule_steady (by_notice h) g = let x = notifier N r inv c h in
        changed _ g (idles N _ c (suc (r.at c).closed) (r.at c).phase (let l = x.further in let u = (old x.who).low in omega arith))
    rule_steady by_crash g = changed _ g (old c)
