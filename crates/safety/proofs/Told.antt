-- What a call's answer tells of the history: accepted steps as many as it counts, so that run on's count and the conductor's two are counts
-- of the rules' steps; and where it is a refusal, the history is as it was.
use Prim.Native.Nat.{ℕ, zero, suc}
use Rattle.std.specs.Prelude.{◌≡◌}
use Rattle.std.proofs.Math.Bool.{true}
use mathlib.Core.List.{List}
use Rattle.std.proofs.Math.Path.{refl, subst}
use Rattle.std.proofs.Common.{sym, ◌∙◌, ap}
use Rattle.safety.specs.Types.{Numbers, ReplicaId, Refusal}
use Rattle.safety.specs.Types.{Call, Open, Single, RunOn, Conduct, Refused, Done, Ran}
use Rattle.model.specs.Rules.{decide}
use Rattle.model.specs.Conductor.{relay_steps, conduct_steps}
use Rattle.model.specs.Scripts.{Script, Played, play, advance, goes_on, running, most_advances}
use Rattle.model.specs.History.{History, take_step, on_history, follow}
use Rattle.model.proofs.Cases.{clash, if-ind, unless_ind}
use Rattle.model.proofs.Sequences.{conducts_by, conducted_by}
use Rattle.safety.specs.Told.{refuses, run_accepts, step_alone, told_refused}

module _ (N : Numbers) (strip : List ℕ) where
  abbrev Alone : History → Played History → Type 0
  Alone h o = refuses o.answer ≡ true → o.state ≡ h

  run_alone : (c : ReplicaId) (most : ℕ) (h : History) → Alone h (play (on_history N strip) (running c most 0) h)
  unfolding running play
  run_alone c zero h = λ g. clash g
  run_alone c (suc most) h =
      let next = take_step N strip (advance c) h in
      let e = decide N strip (advance c) h.rack in
      if-ind (λ (x : Script). Alone h (play (on_history N strip) x next)) (goes_on e) (λ _ g. clash (sym (run_accepts N strip c most 0 next) ∙ g))
      (λ _ g. step_alone N strip (advance c) h (told_refused N strip (Ran 1) refl e g))

  alone : (a : Call) (h : History) → Alone h (follow N (record { strip = strip; call = a }) h)
  unfolding play
  alone (Open q) h = λ g. refl
  alone (Single a) h = λ g. step_alone N strip a h (told_refused N strip Done refl (decide N strip a h.rack) g)
  alone (RunOn c) h = run_alone c (most_advances N) h
  alone Conduct h = let w = on_history N strip in let r = h.rack in
      subst (Alone h) (sym (conducts_by w N h)) (unless_ind (Alone h) _ (λ why g. refl) (λ _.
      subst (Alone h) (sym (conducted_by w (relay_steps N r) (conduct_steps N r) h)) (λ g. clash g)))

  pub refused_alone : (a : Call) (h : History) (why : Refusal) → let o = follow N (record { strip = strip; call = a }) h in o.answer ≡ Refused why → o.state ≡ h
  refused_alone a h why e = alone a h (ap refuses e)
