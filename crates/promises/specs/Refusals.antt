-- Every call is refused by the first of its refusals, in the documents' order, whose condition is met, and only so.
use Prim.Native.Nat.{ℕ, zero, suc, ◌≤◌, ◌<◌}
use Rattle.std.proofs.Common.{arith, ◌∙◌}
use Rattle.std.specs.Prelude.{Bool, true, false, List, [], ◌∷◌, ◌≡◌, length}
use Rattle.std.proofs.Math.Option.{Option, some as just, none}
use Rattle.std.proofs.Math.Path.{refl, ap}
use Rattle.tables.specs.declared.Record.{Record}
use Rattle.tables.specs.Types.{Numbers, Plan, ReplicaId, Refusal, Effect, Refuse, Hold, Send, Close, Seek}
use Rattle.tables.specs.Types.{Receive, Halt, Act, Crash, Step, Call, Open, Single, RunOn, Conduct, Answer, Done, Ran}
use Rattle.model.specs.Tests.{if}
use Rattle.model.specs.Rack.{Rack, Replica}
use Rattle.model.specs.TurnedAway.{Ground, unless}
use Rattle.model.specs.Rules.{rule}
use Rattle.model.specs.Conductor.{relay_steps, conduct_steps}
use Rattle.model.specs.Scripts.{Script, play, answered, advance, goes_on, running, most_advances, Played}
use Rattle.model.proofs.Cases.{clash, if-ind, Unmet, unmet_both}
use Rattle.model.proofs.Sequences.{conducts_by, conducted_by}
use Rattle.safety.specs.Comes.{ByRule, by_submit, by_relay, by_begin, by_hear, by_notice, by_exchange, by_state}
use Rattle.safety.specs.Comes.{by_outcome_0, by_outcome_1, by_seek, by_next_phase, by_find, by_crash}
use Rattle.safety.proofs.Comes.{past}
use Rattle.coin.specs.Strip.{StripOutcome, strip_refusals, strip_filled}
use Rattle.shelf.specs.Planes.{planes, entries_of}
use Rattle.shelf.specs.Calls.{planes_refusals, entries_refusals, rearranged, to_planes, to_entries}
use Rattle.tables.specs.Layout.{Tables, record_end, record_at}
use Rattle.tables.specs.View.{view}
use Rattle.tables.specs.Calls.{CrashOutcome, crash_refusals, crashed, lent_refusals, judge, performed}
use Rattle.tables.specs.Calls.{on_tables, stepped, ran_on, conducted, OpenOutcome, opening_refusals, open_rack, called}
use Rattle.tables.specs.Crashes.{crash_in_place}
use Rattle.promises.specs.Order.{first_met, refusal_of, turned_away, step_refusals, conductor_refusals, call_refusals}

-- "Each is returned when its condition is met and no earlier one is, and at no other time": of every list of refusals, before
-- whatever is accepted where none is met
pub first_returned : {A : Type 0} (turned : A → Option Refusal) (away : Refusal → A) (good : A) → ((why : Refusal) → turned (away why) ≡ just why)
    → (gs : List Ground) → (Unmet gs → turned good ≡ none) → turned (unless away gs good) ≡ first_met gs
unfolding unless first_met Unmet if
first_returned turned away good refuses [] accepts = accepts tt
first_returned turned away good refuses (g ∷ gs) accepts = go g.met (λ e. first_returned turned away good refuses gs (λ u. accepts (e, u)))
  where
    go : (b : Bool) → (b ≡ false → turned (unless away gs good) ≡ first_met gs)
        → turned (if b (away g.why) (unless away gs good)) ≡ if b (just g.why) (first_met gs)
    go true below = refuses g.why
    go false below = below refl

-- ---- steps

-- the effect of a rule is no refusal
rule_accepts : {N : Numbers} {r : Rack} {k : Replica} {a : Act} {e : Effect} → ByRule N r k a e → refusal_of e ≡ none
rule_accepts (by_submit a b d) = refl
rule_accepts (by_relay a b d) = refl
rule_accepts (by_begin was a ne) = refl
rule_accepts (by_hear so a b d e g) = refl
rule_accepts (by_notice heard) = refl
rule_accepts (by_exchange was q) = refl
rule_accepts (by_state was q) = refl
rule_accepts (by_outcome_0 v e) = refl
rule_accepts (by_outcome_1 v e ne) = refl
rule_accepts (by_seek v e z) = refl
rule_accepts (by_next_phase flip v e l) = refl
rule_accepts (by_find was ne) = refl
rule_accepts by_crash = refl

-- an effect's answer refuses as the effect does
told_refusal : (good : Answer) → turned_away good ≡ none → (e : Effect) → turned_away (answered good e) ≡ refusal_of e
told_refusal good h = elim [ Refuse why ↦ refl | Hold x ↦ h | Send so p w ↦ h | Close x own ↦ h | Seek ↦ h | Receive so s p d w ↦ h | Halt ↦ h ]

module _ (N : Numbers) (strip : List ℕ) where
  step_refuses : (a : Step) (t : Tables) → refusal_of (judge N strip a t) ≡ first_met (step_refusals N strip a t)
  unfolding judge
  step_refuses a t = first_returned refusal_of Refuse (rule N strip a (view N t)).effect (λ why. refl) (step_refusals N strip a t)
      (λ u. rule_accepts (past N (view N t) strip a (unmet_both (lent_refusals N a t) _ u).1).1)

  pub step_answers : (a : Step) (t : Tables) → turned_away (stepped N strip a t).answer ≡ first_met (step_refusals N strip a t)
  unfolding stepped play
  step_answers a t = told_refusal Done refl (judge N strip a t) ∙ step_refuses a t

  -- ---- run on

  -- once an advance was accepted, so is the call
  pub running_accepts : (c : ReplicaId) (most k : ℕ) (t : Tables) → turned_away (play (on_tables N strip) (running c most (suc k)) t).answer ≡ none
  unfolding running play
  running_accepts c zero k t = refl
  running_accepts c (suc most) k t = let next = performed N strip (advance c) t in
      if-ind (λ (x : Script). turned_away (play (on_tables N strip) x next).answer ≡ none) _ (λ _. running_accepts c most (suc k) next) (λ _. refl)

  -- an effect after which a run on goes on is no refusal
  going : (e : Effect) → goes_on e ≡ true → none ≡ refusal_of e
  going = elim [
    | Refuse why ↦ λ g. clash g
    | Hold x ↦ λ g. refl
    | Send so p w ↦ λ g. refl
    | Close x own ↦ λ g. refl
    | Seek ↦ λ g. refl
    | Receive so s p d w ↦ λ g. refl
    | Halt ↦ λ g. refl
  ]

  running_refuses : (c : ReplicaId) (most : ℕ) (t : Tables) → 0 < most
      → turned_away (play (on_tables N strip) (running c most 0) t).answer ≡ refusal_of (judge N strip (advance c) t)
  unfolding running play
  running_refuses c zero t l = absurd (omega arith)
  running_refuses c (suc most) t l = let e = judge N strip (advance c) t in let next = performed N strip (advance c) t in
      if-ind (λ (x : Script). turned_away (play (on_tables N strip) x next).answer ≡ refusal_of e) _
      (λ g. running_accepts c most 0 next ∙ going e g) (λ _. told_refusal (Ran 1) refl e)

  -- "If the first advance is refused, so is the step."
  pub run_on_answers : (c : ReplicaId) (t : Tables) → turned_away (ran_on N strip c t).answer ≡ first_met (step_refusals N strip (advance c) t)
  unfolding ran_on
  run_on_answers c t = running_refuses c (most_advances N) t (omega arith) ∙ step_refuses (advance c) t

  -- ---- the conductor

  pub conduct_answers : (t : Tables) → turned_away (conducted N strip t).answer ≡ first_met (conductor_refusals N strip t)
  unfolding conducted
  conduct_answers t = let r = view N t in
      ap (λ (o : Played Tables). turned_away o.answer) (conducts_by (on_tables N strip) N t)
      ∙ first_returned (λ (o : Played Tables). turned_away o.answer) _ _ (λ why. refl) (conductor_refusals N strip t)
      (λ _. ap (λ (o : Played Tables). turned_away o.answer) (conducted_by (on_tables N strip) (relay_steps N r) (conduct_steps N r) t))

-- ---- the other calls

pub crash_answers : (N : Numbers) (c : ℕ) (k : Record) → turned_away (crashed N c k).answer ≡ first_met (crash_refusals N c k)
unfolding crashed
crash_answers N c k = first_returned (λ (o : CrashOutcome). turned_away o.answer) _ _ (λ why. refl) (crash_refusals N c k) (λ _. refl)

-- "A crash gets the record of the controller it names": a crash step on the tables answers as the crash of that record
pub crash_step_answers : (N : Numbers) (strip : List ℕ) (c : ReplicaId) (t : Tables) → (c.0 < N.n → record_end c.0 ≤ length t.words)
    → (stepped N strip (record { who = c; act = Crash }) t).answer ≡ (crashed N c.0 (record_at t.words c.0)).answer
crash_step_answers N strip c t there = ap (λ (o : Played Tables). o.answer) (crash_in_place N strip c t there)

pub opening_answers : (q : Plan) (t : Tables) (strip : List ℕ) → turned_away (open_rack q t strip).answer ≡ first_met (opening_refusals q t strip)
unfolding open_rack
opening_answers q t strip = first_returned (λ (o : OpenOutcome). turned_away o.answer) _ _ (λ why. refl) (opening_refusals q t strip) (λ _. refl)

pub strip_answers : (slots phases start : ℕ) (strip : List ℕ)
    → turned_away (strip_filled slots phases start strip).answer ≡ first_met (strip_refusals slots phases start strip)
unfolding strip_filled
strip_answers slots phases start strip =
    first_returned (λ (o : StripOutcome). turned_away o.answer) _ _ (λ why. refl) (strip_refusals slots phases start strip) (λ _. refl)

-- the archive's two calls, each by its own refusals
rearranged_answers : (gs : List Ground) (result output : List ℕ) → turned_away (rearranged gs result output).answer ≡ first_met gs
unfolding rearranged
rearranged_answers gs result output = first_returned (λ (o : Played (List ℕ)). turned_away o.answer) _ _ (λ why. refl) gs (λ _. refl)

pub planes_answers : (entries output : List ℕ) → turned_away (to_planes entries output).answer ≡ first_met (planes_refusals entries output)
planes_answers entries output = rearranged_answers (planes_refusals entries output) (planes entries) output

pub entries_answers : (stored output : List ℕ) → turned_away (to_entries stored output).answer ≡ first_met (entries_refusals stored output)
entries_answers stored output = rearranged_answers (entries_refusals stored output) (entries_of stored) output

-- any call
pub call_answers : (N : Numbers) (a : Call) (t : Tables) (strip : List ℕ)
    → turned_away (called N a t strip).answer ≡ first_met (call_refusals N a t strip)
unfolding called
call_answers N (Open q) t strip = opening_answers q t strip
call_answers N (Single a) t strip = step_answers N strip a t
call_answers N (RunOn c) t strip = run_on_answers N strip c t
call_answers N Conduct t strip = conduct_answers N strip t
