-- What a call's answer tells of the history: accepted steps as many as it counts, so that run on's count and the conductor's two are counts
-- of the rules' steps; and where it is a refusal, the history is as it was.
use Prim.Native.Nat.{ℕ, zero, suc, ◌+◌}
use native.Mathlib.Omega.{arith}
use Rattle.std.specs.Prelude.{Bool, ◌≡◌}
use Rattle.std.proofs.Math.Bool.{true, false}
use mathlib.Core.List.{List, [], ◌∷◌}
use Rattle.std.proofs.Math.Path.{refl, subst}
use Rattle.std.proofs.Common.{sym, ◌∙◌}
use Rattle.std.proofs.Math.ListN.{length}
use Rattle.safety.specs.Types.{Numbers, ReplicaId, Effect, Refuse, Hold, Send, Close, Seek, Receive, Halt, Step}
use Rattle.safety.specs.Types.{Call, Open, Single, RunOn, Conduct, Answer, Refused, Done, Ran, Opened, Conducted}
use Rattle.model.specs.Tests.{if, bit}
use Rattle.model.specs.Rack.{apply}
use Rattle.model.specs.Rules.{decide}
use Rattle.model.specs.Conductor.{relay_steps, conduct_steps}
use Rattle.model.specs.Scripts.{Script, Played, play, accepted, answered, advance, goes_on, stopped, running, most_advances, after_all, accepted_of}
use Rattle.model.specs.History.{Taken, History, take_step, on_history, follow}
use Rattle.model.proofs.Cases.{clash, if-ind, unless_ind}
use Rattle.model.proofs.Sequences.{conducts_by, conducted_by}

-- how many accepted steps an answer tells of
abbrev pub steps_told : Answer → ℕ
steps_told (Refused why) = 0
steps_told Done = 1
steps_told (Ran k) = k
steps_told (Opened N) = 0
steps_told (Conducted k m) = k + m

module _ (N : Numbers) (strip : List ℕ) where
  abbrev size : History → ℕ
  size h = length h.taken

  -- a step is one more, if it is accepted
  taken_size : (a : Step) (h : History) → size (take_step N strip a h) ≡ bit (accepted (decide N strip a h.rack)) + size h
  unfolding take_step if
  taken_size a h = go (accepted (decide N strip a h.rack)) _ h.taken
    where
      go : (b : Bool) (t : Taken) (ts : List Taken) → length (if b (t ∷ ts) ts) ≡ bit b + length ts
      go true t ts = omega arith
      go false t ts = omega arith

  all_size : (steps : List Step) (h : History) → size (after_all (on_history N strip) steps h) ≡ accepted_of (on_history N strip) steps h + size h
  unfolding after_all accepted_of
  all_size [] h = omega arith
  all_size (a ∷ steps) h = omega (arith, all_size steps (take_step N strip a h), taken_size a h)

  single_told : (e : Effect) → bit (accepted e) ≡ steps_told (answered Done e)
  single_told = elim [ Refuse why ↦ refl | Hold x ↦ refl | Send so p w ↦ refl | Close x own ↦ refl | Seek ↦ refl | Receive so s p d w ↦ refl | Halt ↦ refl ]

  stopped_told : (k : ℕ) (e : Effect) → bit (accepted e) + k ≡ steps_told (stopped k e)
  stopped_told zero =
      elim [ Refuse why ↦ refl | Hold x ↦ refl | Send so p w ↦ refl | Close x own ↦ refl | Seek ↦ refl | Receive so s p d w ↦ refl | Halt ↦ refl ]
  stopped_told (suc k) = λ e. refl

  going_counts : (e : Effect) → goes_on e ≡ true → bit (accepted e) ≡ 1
  going_counts = elim [
    | Refuse why ↦ λ g. clash g
    | Hold x ↦ λ g. refl
    | Send so p w ↦ λ g. refl
    | Close x own ↦ λ g. refl
    | Seek ↦ λ g. refl
    | Receive so s p d w ↦ λ g. refl
    | Halt ↦ λ g. refl
  ]

  running_told : (c : ReplicaId) (most k : ℕ) (h : History) → let o = play (on_history N strip) (running c most k) h in
      size o.state + k ≡ steps_told o.answer + size h
  unfolding running play
  running_told c zero k h = omega arith
  running_told c (suc most) k h =
      let e = decide N strip (advance c) h.rack in
      let next = take_step N strip (advance c) h in
      if-ind (λ (x : Script). let o = play (on_history N strip) x next in size o.state + k ≡ steps_told o.answer + size h) (goes_on e)
      (λ g. omega (arith, running_told c most (suc k) next, taken_size (advance c) h, going_counts e g))
      (λ _. omega (arith, taken_size (advance c) h, stopped_told k e))

  abbrev Told : History → Played History → Type 0
  Told h o = size o.state ≡ steps_told o.answer + size h

  -- "a call built of steps, as run on, counts as those accepted in it, in order"
  pub told_taken : (a : Call) (h : History) → Told h (follow N (record { strip = strip; call = a }) h)
  unfolding play
  told_taken (Open q) h = omega arith
  told_taken (Single a) h = omega (arith, taken_size a h, single_told (decide N strip a h.rack))
  told_taken (RunOn c) h = omega (arith, running_told c (most_advances N) 0 h)
  told_taken Conduct h = let w = on_history N strip in let r = h.rack in
      subst (Told h) (sym (conducts_by w N h)) (unless_ind (Told h) _ (λ why. omega arith) (λ _.
      subst (Told h) (sym (conducted_by w (relay_steps N r) (conduct_steps N r) h))
      (omega (arith, all_size (conduct_steps N r) (after_all w (relay_steps N r) h), all_size (relay_steps N r) h))))

-- ---- "A refused call leaves it alone"

abbrev pub refuses : Answer → Bool
refuses (Refused why) = true
refuses Done = false
refuses (Ran k) = false
refuses (Opened N) = false
refuses (Conducted k m) = false

module _ (N : Numbers) (strip : List ℕ) where
  pub step_alone : (a : Step) (h : History) → accepted (decide N strip a h.rack) ≡ false → take_step N strip a h ≡ h
  unfolding take_step apply if
  step_alone a h = go (decide N strip a h.rack)
    where
      with_effect : Effect → History
      with_effect e = record {
        rack = apply a.who.0 e h.rack;
        taken = if (accepted e) (record { step = a; was = h.rack.at a.who.0; effect = e } ∷ h.taken) h.taken;
      }

      go : (e : Effect) → accepted e ≡ false → with_effect e ≡ h
      go = elim [
        | Refuse why ↦ λ g. refl
        | Hold x ↦ λ g. clash (sym g)
        | Send so p w ↦ λ g. clash (sym g)
        | Close x own ↦ λ g. clash (sym g)
        | Seek ↦ λ g. clash (sym g)
        | Receive so s p d w ↦ λ g. clash (sym g)
        | Halt ↦ λ g. clash (sym g)
      ]

  -- an effect whose answer is a refusal was refused
  pub told_refused : (good : Answer) → refuses good ≡ false → (e : Effect) → refuses (answered good e) ≡ true → accepted e ≡ false
  told_refused good h = elim [
    | Refuse why ↦ λ g. refl
    | Hold x ↦ λ g. clash (sym h ∙ g)
    | Send so p w ↦ λ g. clash (sym h ∙ g)
    | Close x own ↦ λ g. clash (sym h ∙ g)
    | Seek ↦ λ g. clash (sym h ∙ g)
    | Receive so s p d w ↦ λ g. clash (sym h ∙ g)
    | Halt ↦ λ g. clash (sym h ∙ g)
  ]

  -- once an advance was accepted, a run on is not refused
  pub run_accepts : (c : ReplicaId) (most k : ℕ) (h : History) → refuses (play (on_history N strip) (running c most (suc k)) h).answer ≡ false
  unfolding running play
  run_accepts c zero k h = refl
  run_accepts c (suc most) k h = let next = take_step N strip (advance c) h in
      if-ind (λ (x : Script). refuses (play (on_history N strip) x next).answer ≡ false) _ (λ _. run_accepts c most (suc k) next) (λ _. refl)

  abbrev Alone : History → Played History → Type 0
  Alone h o = refuses o.answer ≡ true → o.state ≡ h
