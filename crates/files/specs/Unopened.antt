-- A step, a run on and the conductor answer a refusal, that they are done, or their counts: they open nothing. What holds of
-- these answers holds of theirs.
use Prim.Native.Nat.{ℕ, zero, suc}
use Rattle.std.specs.Prelude.{List, ◌++◌}
use Rattle.std.proofs.Common.{sym}
use Rattle.std.proofs.Math.Path.{subst}
use Rattle.tables.specs.Types.{Numbers, ReplicaId, Refusal, Effect, Refuse, Hold, Send, Close, Seek, Receive, Halt, Step, Answer, Refused, Done, Ran}
use Rattle.tables.specs.Types.{Conducted}
use Rattle.model.specs.Conductor.{conduct_refusals, relay_steps, conduct_steps}
use Rattle.model.specs.Scripts.{Script, Stage, Played, play, answered, advance, goes_on, stopped, running, most_advances}
use Rattle.model.proofs.Cases.{if-ind, unless_ind}
use Rattle.model.proofs.Sequences.{conducts_by, conducted_by}
use Rattle.tables.specs.Layout.{Tables}
use Rattle.tables.specs.View.{view}
use Rattle.tables.specs.Calls.{tables_barred, on_tables, stepped, ran_on, conducted}

module _ (P : Answer → Type 0) (refused : (why : Refusal) → P (Refused why)) (done : P Done) (ran : (k : ℕ) → P (Ran k))
    (both : (k m : ℕ) → P (Conducted k m)) where
  told_ind : (good : Answer) → P good → (e : Effect) → P (answered good e)
  told_ind good h (Refuse why) = refused why
  told_ind good h (Hold x) = h
  told_ind good h (Send so q w) = h
  told_ind good h (Close x own) = h
  told_ind good h Seek = h
  told_ind good h (Receive so s q d w) = h
  told_ind good h Halt = h

  stopped_ind : (k : ℕ) (e : Effect) → P (stopped k e)
  stopped_ind zero e = told_ind (Ran 1) (ran 1) e
  stopped_ind (suc k) e = ran _

  running_ind : {S : Type 0} (w : Stage S) (c : ReplicaId) (most k : ℕ) (s : S) → P (play w (running c most k) s).answer
  unfolding play running
  running_ind w c zero k s = ran k
  running_ind w c (suc most) k s =
      let e = w.judge (advance c) s in
      if-ind (λ (x : Script). P (play w x (w.perform (advance c) s)).answer) (goes_on e) (λ _. running_ind w c most (suc k) _) (λ _. stopped_ind k e)

  module _ (N : Numbers) (strip : List ℕ) (t : Tables) where
    pub step_answer : (a : Step) → P (stepped N strip a t).answer
    unfolding stepped play
    step_answer a = told_ind Done done ((on_tables N strip).judge a t)

    pub run_answer : (c : ReplicaId) → P (ran_on N strip c t).answer
    unfolding ran_on
    run_answer c = running_ind (on_tables N strip) c (most_advances N) 0 t

    pub conduct_answer : P (conducted N strip t).answer
    unfolding conducted
    conduct_answer = let r = view N t in let w = on_tables N strip in
        subst Told (sym (conducts_by w N t)) (unless_ind Told (tables_barred N strip t ++ conduct_refusals N r) refused
        (λ _. subst Told (sym (conducted_by w (relay_steps N r) (conduct_steps N r) t)) (both _ _)))
      where
        Told : Played Tables → Type 0
        Told o = P o.answer
