-- What the calls keep: a refusal changes nothing at all, no call changes the length of a table or strip, and a step stores
-- only in the tables that its rule speaks of.
use Prim.Native.Nat.{ℕ, ◌<◌}
use Rattle.std.proofs.Common.{arith, inl, inr}
use Rattle.std.specs.Prelude.{List}
use Rattle.std.proofs.Math.Bool.{true, false}
use Rattle.std.proofs.Math.Path.{refl}
use Rattle.tables.specs.Types.{Numbers, ReplicaId, Proposals, States, Votes, Effect}
use Rattle.tables.specs.Types.{Act, Submit, Relay, Begin, Hear, Advance}
use Rattle.tables.specs.Types.{Crash, Step}
use Rattle.model.specs.Scripts.{play, advance, most_advances}
use Rattle.model.proofs.Cases.{Unmet, unless_ind, unmet_both}
use Rattle.safety.specs.Comes.{ByRule, by_submit, by_relay, by_begin, by_hear, by_notice, by_exchange, by_state}
use Rattle.safety.specs.Comes.{by_outcome_0, by_outcome_1, by_seek, by_next_phase, by_find, by_crash}
use Rattle.safety.proofs.Comes.{past}
use Rattle.tables.specs.Layout.{Tables, known_in, record_at, proposal_cell}
use Rattle.tables.specs.View.{view}
use Rattle.tables.specs.Write.{write}
use Rattle.tables.specs.Checks.{long}
use Rattle.tables.specs.Calls.{lent_refusals, judge, performed}
use Rattle.tables.specs.Calls.{stepped, ran_on}
use Rattle.tables.specs.Addresses.{proposal_in}
use Rattle.tables.specs.Sections.{agree_self, agree_more, elsewhere}
use Rattle.promises.specs.Order.{step_refusals}
use Rattle.promises.specs.Kept.{TouchesOnly, closing_touches, heard_kept, hold_touches, lent_few, marked_head, marked_holders, record_keeps}
use Rattle.promises.specs.Kept.{running_keeps, sends_keeps, slot_low, untouched}

module _ (N : Numbers) (strip : List ℕ) where
  module _ (t : Tables) where
    abbrev ws : List ℕ
    ws = t.words

    abbrev os : List ℕ
    os = t.orders

    abbrev k : ℕ
    k = known_in ws

    rule_touches : (c : ReplicaId) (a : Act) {e : Effect} → Unmet (lent_refusals N (record { who = c; act = a }) t) → c.0 < N.n
        → ByRule N (view N t) ((view N t).at c.0) a e → TouchesOnly N t (write N c.0 e t) a
    unfolding write
    rule_touches c (Submit x) lent there (by_submit ne h l) = let (few, long) = lent_few N strip t c (Submit x) refl lent in
        hold_touches N strip t few long c.0 x l
    rule_touches c (Relay x) lent there (by_relay ne l h) = let (few, long) = lent_few N strip t c (Relay x) refl lent in
        hold_touches N strip t few long c.0 x (inl l)
    rule_touches c Begin lent there (by_begin i l ne) =
        let low = slot_low N strip t c.0 there l in (
          (sends_keeps N strip t) c.0 there Proposals _ 0 _ _ (elsewhere os _ _ (inr (omega arith))),
          elsewhere os (proposal_cell N (record_at ws c.0).slot c.0) _
              (inl (let h = proposal_in N (record_at ws c.0).slot c.0 low there in omega arith)),
          refl,
        )
    rule_touches c (Hear m) lent there (by_hear so l s q w h) = (
      (
        (marked_head N strip t) so m.slot.0 m.phase.0 m.sender.0 _,
        (marked_holders N strip t) so m.slot.0 m.phase.0 m.sender.0 _,
        agree_self os,
      ),
      elsewhere ws _ _ (inr (omega arith)),
      refl,
      refl,
    )
    rule_touches c Advance lent there (by_notice heard) = closing_touches N strip t c.0 there _ false
    rule_touches c Advance lent there (by_exchange i q) = (sends_keeps N strip t c.0 there States _ 1 _ _ (agree_self os), agree_self os)
    rule_touches c Advance lent there (by_state i q) = (sends_keeps N strip t c.0 there Votes _ _ _ _ (agree_self os), agree_self os)
    rule_touches c Advance lent there (by_outcome_0 v o) = closing_touches N strip t c.0 there 0 true
    rule_touches c Advance lent there (by_outcome_1 v o ne) = closing_touches N strip t c.0 there _ true
    rule_touches c Advance lent there (by_seek v o z) = (record_keeps N strip t c.0 there _ (agree_self os), agree_self os)
    rule_touches c Advance lent there (by_next_phase flip v o l) = (sends_keeps N strip t c.0 there States _ _ _ _ (agree_self os), agree_self os)
    rule_touches c Advance lent there (by_find i ne) = closing_touches N strip t c.0 there _ true
    rule_touches c Crash lent there by_crash = (record_keeps N strip t c.0 there _ (agree_self os), heard_kept N strip t ws c.0 there _, refl, refl)

  came_touches : (t : Tables) (a : Step) → TouchesOnly N t (performed N strip a t) a.act
  unfolding judge write
  came_touches t a = unless_ind (λ (e : Effect). TouchesOnly N t (write N a.who.0 e t) a.act) (step_refusals N strip a t)
      (λ why. untouched N strip t a.act) (λ u.
      let (lent, rest) = unmet_both (lent_refusals N a t) _ u in
      let (acts, rule) = past N (view N t) strip a rest in rule_touches t a.who a.act lent acts.there rule)

  pub touches_only : (a : Step) (t : Tables) → TouchesOnly N t (stepped N strip a t).state a.act
  unfolding stepped play
  touches_only a t = came_touches t a

  pub run_on_touches_only : (c : ReplicaId) (t : Tables) → TouchesOnly N t (ran_on N strip c t).state Advance
  unfolding ran_on
  run_on_touches_only c t = running_keeps N strip c (λ (u : Tables). TouchesOnly N t u Advance) further (most_advances N) 0 t (untouched N strip t Advance)
    where
      further : (u : Tables) → TouchesOnly N t u Advance → TouchesOnly N t (performed N strip (advance c) u) Advance
      further u h = let k = came_touches u (advance c) in
          ((agree_more h.0.0 k.0.0, agree_more h.0.1 k.0.1, agree_more h.0.2 k.0.2), agree_more h.1 k.1)
