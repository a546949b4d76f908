-- Where submitted tags come from: no call but a submit hands one in, so that each was handed in by a submit of the list.
use Prim.Native.Nat.{ℕ, zero, suc}
use Rattle.std.specs.Prelude.{Bool, false, ◌||◌, ◌≡◌}
use Rattle.std.proofs.Math.Bool.{true, or_comm}
use mathlib.Core.List.{List, [], ◌∷◌, ◌++◌}
use Rattle.std.proofs.Math.Path.{refl}
use Rattle.std.proofs.Common.{sym, ◌∙◌}
use Rattle.model.specs.Tests.{some}
use Rattle.model.specs.Rack.{Rack}
use Rattle.model.specs.Conductor.{for_each, does, hear, hear_steps, round_steps, slot_steps, conduct_refusals, relay_steps, conduct_steps}
use Rattle.model.specs.Scripts.{Script, done, take, look, Played, play, goes_on, running, run_on, take_all, conducting, conduct, script}
use Rattle.model.specs.History.{Taken, History, Lent, take_step, on_history, submits, submitted}
use Rattle.model.proofs.Cases.{clash, or_left, if-ind, unless_ind}
use Rattle.tables.specs.Types.{Numbers, ReplicaId, Effect, Act, Relay, Begin, Advance, Step, Call, Open, Single, RunOn, Conduct}

-- a call hands in a tag, and one of a list does
abbrev pub hands : ℕ → Call → Bool
hands x (Open q) = false
hands x (Single a) = submits x a.act
hands x (RunOn c) = false
hands x Conduct = false

abbrev pub handed_in : ℕ → List Lent → Bool
handed_in x = some (λ (l : Lent). hands x l.call)

-- ---- tests

-- what the next one tells is told of what is behind it
pub passed_on : (a b c d : Bool) → (d ≡ true → (a || b) ≡ true) → (d || c) ≡ true → (a || (b || c)) ≡ true
passed_on true b c d h e = refl
passed_on false true c d h e = refl
passed_on false false c true h e = clash (h refl)
passed_on false false c false h e = e

module _ (x : ℕ) where
  -- ---- scripts and lists of steps that do not

  unfoldable Quiet : Script → Type 0
  Quiet (done a) = Unit {0}
  Quiet (take a next) = (submits x a.act ≡ false) × ((e : Effect) → Quiet (next e))
  Quiet (look next) = (r : Rack) → Quiet (next r)

  unfoldable AllQuiet : List Step → Type 0
  AllQuiet [] = Unit {0}
  AllQuiet (a ∷ steps) = (submits x a.act ≡ false) × AllQuiet steps

  both_quiet : (steps more : List Step) → AllQuiet steps → AllQuiet more → AllQuiet (steps ++ more)
  unfolding AllQuiet
  both_quiet [] more q r = r
  both_quiet (a ∷ steps) more q r = (q.0, both_quiet steps more q.1 r)

  each_quiet : (k : ℕ) (ok : ℕ → Bool) (steps : ℕ → List Step) → ((c : ℕ) → AllQuiet (steps c)) → AllQuiet (for_each k ok steps)
  unfolding for_each AllQuiet
  each_quiet zero ok steps q = tt
  each_quiet (suc k) ok steps q = both_quiet (for_each k ok steps) _ (each_quiet k ok steps q) (if-ind AllQuiet (ok k) (λ _. q k) (λ _. tt))

  does_quiet : (a : Act) → submits x a ≡ false → (c : ℕ) → AllQuiet (does a c)
  unfolding AllQuiet
  does_quiet a q c = (q, tt)

  take_all_quiet : (steps : List Step) → AllQuiet steps → (k : ℕ) (next : ℕ → Script) → ((m : ℕ) → Quiet (next m)) → Quiet (take_all steps k next)
  unfolding AllQuiet Quiet take_all
  take_all_quiet [] q k next rest = rest k
  take_all_quiet (a ∷ steps) q k next rest = (q.0, λ e. take_all_quiet steps q.1 _ next rest)

  -- ---- run on and the conductor are such scripts

  running_quiet : (c : ReplicaId) (most k : ℕ) → Quiet (running c most k)
  unfolding running Quiet
  running_quiet c zero k = tt
  running_quiet c (suc most) k = (refl, λ e. if-ind Quiet (goes_on e) (λ _. running_quiet c most (suc k)) (λ _. tt))

  round_quiet : (n : ℕ) (lit : ℕ → Bool) (s so p : ℕ) → AllQuiet (round_steps n lit s so p)
  round_quiet n lit s so p =
      both_quiet (for_each n lit (hear_steps n lit s so p)) _ (each_quiet n lit _ (λ c. each_quiet n _ _ (λ d. does_quiet (hear so s p d) refl c)))
      (each_quiet n lit _ (does_quiet Advance refl))

  conduct_quiet : (N : Numbers) → Quiet (conduct N)
  unfolding Quiet conducting relay_steps conduct_steps slot_steps
  conduct_quiet N r =
      unless_ind Quiet (conduct_refusals N r) (λ _. tt) (λ _.
      take_all_quiet (relay_steps N r) (each_quiet _ _ _ (does_quiet (Relay _) refl)) 0 _ (λ k.
      take_all_quiet (conduct_steps N r) (both_quiet _ _ (each_quiet _ _ _ (does_quiet Begin refl))
      (both_quiet _ _ (round_quiet _ _ _ _ _) (both_quiet _ _ (round_quiet _ _ _ _ _) (round_quiet _ _ _ _ _)))) 0 _ (λ m. tt)))

  -- ---- what they leave of the submitted tags

  module _ (N : Numbers) where
    step_quiet : (strip : List ℕ) (a : Step) (h : History) → submits x a.act ≡ false → submitted (take_step N strip a h) x ≡ submitted h x
    unfolding take_step some
    step_quiet strip a h q =
        if-ind (λ (l : List Taken). some (λ t. submits x t.step.act) l ≡ submitted h x) _ (λ _. rw q) (λ _. refl)

    quiet_play : (strip : List ℕ) (s : Script) (h : History) → Quiet s → submitted (play (on_history N strip) s h).state x ≡ submitted h x
    unfolding play Quiet
    quiet_play strip (done a) h q = refl
    quiet_play strip (take a next) h q = quiet_play strip (next _) (take_step N strip a h) (q.1 _) ∙ step_quiet strip a h q.0
    quiet_play strip (look next) h q =
        unless_ind (λ (o : Played History). submitted o.state x ≡ submitted h x) _ (λ _. refl) (λ _. quiet_play strip (next h.rack) h (q h.rack))

    -- after a call no tag was submitted but before it, or by it
    pub call_hands : (strip : List ℕ) (a : Call) (h : History) → submitted (play (on_history N strip) (script N a) h).state x ≡ true
        → (submitted h x || hands x a) ≡ true
    unfolding play take_step some
    call_hands strip (Open q) h e = or_left _ _ e
    call_hands strip (Single a) h e =
        if-ind (λ (l : List Taken). some (λ t. submits x t.step.act) l ≡ true → (submitted h x || submits x a.act) ≡ true) _
        (λ _ e. or_comm (submitted h x) (submits x a.act) ∙ e) (λ _. or_left _ _) e
    call_hands strip (RunOn c) h e = or_left _ _ (sym (quiet_play strip (run_on N c) h (running_quiet c _ 0)) ∙ e)
    call_hands strip Conduct h e = or_left _ _ (sym (quiet_play strip (conduct N) h (conduct_quiet N)) ∙ e)
