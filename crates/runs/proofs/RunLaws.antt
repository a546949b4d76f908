-- A run on by one advance of it: the script's law, in the terms of what the code knows behind the advance.
use Rattle.std.specs.Prelude.{Result, Ok, Err, ⊤}
use Rattle.std.specs.Result.{IsErrAnd}
use Rattle.std.proofs.Common.{◌≡◌, ℕ, suc, ◌+◌, ◌*◌, ◌≤◌, Bool, true, false, List, length, refl, sym, ◌∙◌, ap, add-one, arith, le-ltb}
use native.Mathlib.Omega.{arith}
use Rattle.model.specs.declared.Numbers.{Numbers}
use Rattle.model.specs.declared.ReplicaId.{ReplicaId}
use Rattle.model.specs.declared.Refusal.{Refusal}
use Rattle.model.specs.declared.Effect.{Effect}
use Rattle.model.specs.declared.Effect.TheVariants.{Refuse}
use Rattle.model.specs.declared.Act.TheVariants.{Advance}
use Rattle.model.specs.declared.Answer.{Answer}
use Rattle.model.specs.declared.Answer.TheVariants.{Ran}
use Rattle.model.specs.Answers.{answer_in}
use Rattle.model.specs.Limits.{most_phases}
use Rattle.model.specs.Scripts.{play, accepted, advance, goes_on, stopped, running, most_advances, ended}
use Rattle.model.proofs.Cases.{and_true, none_met}
use Rattle.model.proofs.Playing.{run_further, run_stops}
use Rattle.tables.specs.Layout.{Tables}
use Rattle.tables.specs.Calls.{judge, performed, on_tables, ran_on}
use Rattle.tables.specs.Write.{unstored}
use Rattle.promises.specs.Still.{still_fine}
use Rattle.promises.specs.RunOn.{run_on_further}
use Rattle.refusals.specs.Vet.{first_vetted}
use Rattle.acts.specs.Admitted.{Admitted}
use Rattle.acts.proofs.GateLaws.{turned_away, admitted, asked_unmet, judge_stops}
use Rattle.acts.proofs.StepLaws.{performs}

module _ (N : Numbers) (strip : List ℕ) (c : ReplicaId) where
  abbrev Vetted : Result ⊤ Refusal → Tables → Type 0
  Vetted v t = v ≡ first_vetted N c.0 c.0 (length strip) t

  -- behind the first refusals the phases are few
  pub phases_few : (t : Tables) → Vetted (Ok tt) t → N.phases ≤ most_phases
  phases_few t passed = (admitted passed).fine.within.phases_few

  -- no advance is made
  pub none_made : (t : Tables) {most : ℕ} → most ≡ most_advances N → play (on_tables N strip) (running c most 0) t ≡ ran_on N strip c t
  unfolding ran_on
  none_made t e = ap (λ (k : ℕ). play (on_tables N strip) (running c k 0) t) e

  -- and none is left to make
  pub run_out : (t : Tables) {count most : ℕ} → count ≡ most → ended (Ran most) t ≡ play (on_tables N strip) (running c 0 count) t
  unfolding play running
  run_out t e = ap (λ (k : ℕ). ended (Ran k) t) (sym e)

  -- ---- by one advance

  module _ (t : Tables) {e : Effect} {u : Tables} (judged : e ≡ judge N strip (advance c) t) (left : u ≡ performed N strip (advance c) t) {b : Bool}
      (asked : b ≡ goes_on e) where
    went : {v : Bool} → b ≡ v → goes_on (judge N strip (advance c) t) ≡ v
    went h = ap goes_on (sym judged) ∙ sym asked ∙ h

    -- where it goes on, the next meets no first refusal either
    pub passes_again : Vetted (Ok tt) t → b ≡ true → Vetted (Ok tt) u
    unfolding first_vetted
    passes_again passed h =
        let l = admitted passed in
        let still = still_fine N strip (advance c) t refl (and_true (accepted (judge N strip (advance c) t)) _ (went h)).0 in
        let again : Admitted N c.0 c.0 (length strip) (performed N strip (advance c) t) = record {
          fine = still.fine;
          coins = l.coins;
          who = l.who;
          named = l.named;
          running = still.alike c.0 l.who ∙ l.running;
        } in
        sym (none_met Err (Ok tt) _ (asked_unmet again (length strip) (le-ltb _ _ l.coins))) ∙ ap (first_vetted N c.0 c.0 (length strip)) (sym left)

    -- it stops here
    pub stops_here : (most count : ℕ) {r : Answer} → b ≡ false → r ≡ stopped count e → ended r u ≡ play (on_tables N strip) (running c (suc most) count) t
    stops_here most count h q =
        (λ i. ended ((q ∙ ap (stopped count) judged) i) (left i)) ∙ sym (run_stops (on_tables N strip) c most count t (went h))

    -- it goes on with what is left
    pub goes_further : (most count : ℕ) → b ≡ true
        → play (on_tables N strip) (running c most (count + 1)) u ≡ play (on_tables N strip) (running c (suc most) count) t
    goes_further most count h =
        (λ i. play (on_tables N strip) (running c most (add-one count i)) (left i)) ∙ sym (run_further (on_tables N strip) c most count t (went h))

  -- the first refusals turn it away, and its first advance with it
  pub turns_away : (t : Tables) (r : Result ℕ Refusal) {why : Refusal} → IsErrAnd r (λ y. y ≡ why) → Vetted (Err why) t
      → ended (answer_in Ran r) t ≡ ran_on N strip c t
  turns_away t r {why} away e =
      let judged = judge_stops N strip t c Advance refl e in
      stops_here t judged (performs N strip (advance c) t judged (unstored N c.0 t (Refuse why) refl)) refl (2 * N.phases + 4) 0 refl
      (ap (answer_in Ran) (turned_away away)) ∙ none_made t (omega arith)

  -- after a first advance that goes on, any bound that is as large does
  pub first_goes : (t : Tables) {e : Effect} {u : Tables} → e ≡ judge N strip (advance c) t → u ≡ performed N strip (advance c) t → {b : Bool} → b ≡ goes_on e
      → (more : ℕ) → most_advances N ≤ more → b ≡ true → play (on_tables N strip) (running c more 1) u ≡ ran_on N strip c t
  first_goes t judged left asked more enough h =
      ap (λ (u : Tables). play (on_tables N strip) (running c more 1) u) left ∙ run_on_further N strip c t more enough (went t judged left asked h)

  -- by the bound as the code has it
  pub bound_is : (t : Tables) (count : ℕ) {most bound : ℕ} → bound ≡ most
      → play (on_tables N strip) (running c most count) t ≡ play (on_tables N strip) (running c bound count) t
  bound_is t count e = ap (λ (k : ℕ). play (on_tables N strip) (running c k count) t) (sym e)
