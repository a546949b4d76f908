-- Steps one after another, list after list and number after number.
use Prim.Native.Nat.{ℕ, zero, suc, ◌+◌, ◌<◌}
use native.Mathlib.Omega.{arith}
use mathlib.Core.Bool.{Bool, true, false}
use mathlib.Core.List.{List, [], ◌∷◌, ◌++◌}
use mathlib.Core.Path.{◌≡◌, refl, sym, ◌∙◌, ap, ap₂}
use Rattle.model.specs.Types.{Numbers, Step, Refused, Conducted}
use Rattle.model.specs.Tests.{if, bit}
use Rattle.model.specs.TurnedAway.{unless}
use Rattle.model.specs.Conductor.{for_each, conduct_refusals, relay_steps, conduct_steps}
use Rattle.model.specs.Scripts.{Script, Stage, ended, play, accepted, take_all, after_all, accepted_of, conducting, conduct}
use Rattle.model.proofs.Cases.{unless_then, unless_map}

-- tests that agree below the bound pick the same
pub each_same : (k : ℕ) (ok ok' : ℕ → Bool) (steps : ℕ → List Step) → ((c : ℕ) → c < k → ok c ≡ ok' c) → for_each k ok steps ≡ for_each k ok' steps
unfolding for_each
each_same zero ok ok' steps h = refl
each_same (suc k) ok ok' steps h =
    ap₂ (λ (xs : List Step) (b : Bool). xs ++ if b (steps k) []) (each_same k ok ok' steps (λ c l. h c (omega arith))) (h k (omega arith))

module _ {S : Type 0} (w : Stage S) where
  -- ---- what a script makes of them

  pub all_taken : (steps : List Step) (k : ℕ) (next : ℕ → Script) (s : S)
      → play w (take_all steps k next) s ≡ play w (next (accepted_of w steps s + k)) (after_all w steps s)
  unfolding take_all play after_all accepted_of
  all_taken [] k next s = ap (λ (m : ℕ). play w (next m) s) (omega arith)
  all_taken (a ∷ steps) k next s =
      let b = bit (accepted (w.judge a s)) in
      all_taken steps (b + k) next (w.perform a s)
      ∙ ap (λ (m : ℕ). play w (next m) (after_all w steps (w.perform a s))) (omega arith)

  -- the conductor: its refusals, in one list, before its steps
  pub conducts_by : (N : Numbers) (s : S) → let r = w.rack s in
      play w (conduct N) s
      ≡ unless (λ why. ended (Refused why) s) (w.barred s ++ conduct_refusals N r) (play w (conducting (relay_steps N r) (conduct_steps N r)) s)
  unfolding play
  conducts_by N s = let r = w.rack s in
      ap (unless (λ why. ended (Refused why) s) (w.barred s)) (unless_map (λ (x : Script). play w x s) _ _ (conduct_refusals N r))
      ∙ sym (unless_then _ _ (w.barred s) (conduct_refusals N r))

  -- and past them
  pub conducted_by : (relays steps : List Step) (s : S)
      → let s' = after_all w relays s in
      play w (conducting relays steps) s ≡ ended (Conducted (accepted_of w steps s') (accepted_of w relays s)) (after_all w steps s')
  unfolding conducting play
  conducted_by relays steps s =
      all_taken relays 0 _ s ∙ all_taken steps 0 _ (after_all w relays s)
      ∙ ap₂ (λ (m k : ℕ). ended (Conducted m k) (after_all w steps (after_all w relays s))) (omega arith) (omega arith)

  -- ---- list after list

  pub after_then : (xs ys : List Step) (s : S) → after_all w (xs ++ ys) s ≡ after_all w ys (after_all w xs s)
  unfolding after_all
  after_then [] ys s = refl
  after_then (a ∷ xs) ys s = after_then xs ys _

  pub accepted_then : (xs ys : List Step) (s : S) → accepted_of w (xs ++ ys) s ≡ accepted_of w xs s + accepted_of w ys (after_all w xs s)
  unfolding after_all accepted_of
  accepted_then [] ys s = omega arith
  accepted_then (a ∷ xs) ys s = omega (arith, accepted_then xs ys (w.perform a s))

  -- ---- one number more, that makes its steps or is passed over

  module _ (ok : ℕ → Bool) (steps : ℕ → List Step) (k : ℕ) (s : S) where
    abbrev before : S
    before = after_all w (for_each k ok steps) s

    pub after_more : ok k ≡ true → after_all w (for_each (suc k) ok steps) s ≡ after_all w (steps k) before
    unfolding for_each if
    after_more e = rw e (after_then (for_each k ok steps) (steps k) s)

    pub after_past : ok k ≡ false → after_all w (for_each (suc k) ok steps) s ≡ before
    unfolding for_each if after_all
    after_past e = rw e (after_then (for_each k ok steps) [] s)

    pub accepted_more : ok k ≡ true
        → accepted_of w (for_each (suc k) ok steps) s ≡ accepted_of w (for_each k ok steps) s + accepted_of w (steps k) before
    unfolding for_each if
    accepted_more e = rw e (accepted_then (for_each k ok steps) (steps k) s)

    pub accepted_past : ok k ≡ false → accepted_of w (for_each (suc k) ok steps) s ≡ accepted_of w (for_each k ok steps) s
    unfolding for_each if accepted_of
    accepted_past e = rw e (let q = accepted_then (for_each k ok steps) [] s in omega arith)

  -- ---- one step

  pub after_one : (a : Step) (s : S) → after_all w (a ∷ []) s ≡ w.perform a s
  unfolding after_all
  after_one a s = refl

  pub accepted_one : (a : Step) (s : S) → accepted_of w (a ∷ []) s ≡ bit (accepted (w.judge a s))
  unfolding accepted_of
  accepted_one a s = omega arith
