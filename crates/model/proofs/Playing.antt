-- Scripts: what every step keeps, every script keeps; and on two stages that are linked, every script is answered alike and
-- keeps the link.
use Prim.Native.Nat.{ℕ, zero, suc, ◌<◌}
use native.Mathlib.Omega.{arith}
use mathlib.Core.Bool.{Bool, true, false}
use mathlib.Core.List.{List, [], ◌∷◌}
use mathlib.Core.Path.{◌≡◌, refl, sym, ◌∙◌, ap, subst}
use Rattle.model.specs.Types.{ReplicaId, Refusal, Effect, Step}
use Rattle.model.specs.Tests.{if}
use Rattle.model.specs.Rack.{Rack}
use Rattle.model.specs.TurnedAway.{Ground, unless}
use Rattle.model.specs.Scripts.{Script, done, take, look, Stage, Played, ended, play, advance, goes_on, stopped, running, RunsOn, stops, goes}
use Rattle.model.proofs.Branches.{if-true, if-false}
use Rattle.model.proofs.Cases.{if-ind, unless_ind}

-- what every step keeps
pub play_keeps : {S : Type 0} (w : Stage S) (P : S → Type 0) → ((a : Step) (s : S) → P s → P (w.perform a s))
    → (x : Script) (s : S) → P s → P (play w x s).state
unfolding play
play_keeps w P step (done a) s p = p
play_keeps w P step (take a next) s p = play_keeps w P step (next (w.judge a s)) (w.perform a s) (step a s p)
play_keeps w P step (look next) s p =
    unless_ind (λ (o : Played _). P o.state) (w.barred s) (λ _. p) (λ _. play_keeps w P step (next (w.rack s)) s p)

-- two calls that are turned away alike, or else go on alike
away_alike : {A B : Type 0} (R : A → B → Type 0) {a : Refusal → A} {b : Refusal → B} {x : A} {y : B} (gs : List Ground) → ((why : Refusal) → R (a why) (b why))
    → R x y → R (unless a gs x) (unless b gs y)
unfolding unless if
away_alike R [] h k = k
away_alike R {a} {b} {x} {y} (g ∷ gs) h k = go g.met (away_alike R gs h k)
  where
    go : (met : Bool) → R (unless a gs x) (unless b gs y) → R (if met (a g.why) (unless a gs x)) (if met (b g.why) (unless b gs y))
    go true below = h g.why
    go false below = below

module _ {S T : Type 0} (w : Stage S) (v : Stage T) (Linked : S → T → Type 0)
    (same : (a : Step) (s : S) (t : T) → Linked s t → w.judge a s ≡ v.judge a t)
    (keeps : (a : Step) (s : S) (t : T) → Linked s t → Linked (w.perform a s) (v.perform a t))
    (seen : (s : S) (t : T) → Linked s t → w.rack s ≡ v.rack t)
    (turned : (away : Refusal → Played S) (good : Played S) (s : S) (t : T) → Linked s t
    → unless away (w.barred s) good ≡ unless away (v.barred t) good) where
  abbrev Alike : Played S → Played T → Type 0
  Alike p q = (p.answer ≡ q.answer) × Linked p.state q.state

  -- what linked stages do
  pub alike : (x : Script) (s : S) (t : T) → Linked s t → Alike (play w x s) (play v x t)
  unfolding play
  alike (done a) s t link = (refl, link)
  alike (take a next) s t link =
      subst (λ (e : Effect). Alike (play w (next e) (w.perform a s)) (play v (next (v.judge a t)) (v.perform a t))) (sym (same a s t link))
      (alike (next (v.judge a t)) (w.perform a s) (v.perform a t) (keeps a s t link))
  alike (look next) s t link =
      subst (λ (p : Played S). Alike p (play v (look next) t)) (sym (turned _ _ s t link))
      (away_alike Alike (v.barred t) (λ why. (refl, link))
      (subst (λ (r : Rack). Alike (play w (next r) s) (play v (next (v.rack t)) t)) (sym (seen s t link)) (alike (next (v.rack t)) s t link)))

-- ---- a run on, by its first advance

module _ {S : Type 0} (w : Stage S) (c : ReplicaId) (most k : ℕ) (s : S) where
  pub run_further : goes_on (w.judge (advance c) s) ≡ true → play w (running c (suc most) k) s ≡ play w (running c most (suc k)) (w.perform (advance c) s)
  unfolding play running
  run_further g = ap (λ (x : Script). play w x (w.perform (advance c) s)) (if-true _ _ g)

  pub run_stops : goes_on (w.judge (advance c) s) ≡ false
      → play w (running c (suc most) k) s ≡ ended (stopped k (w.judge (advance c) s)) (w.perform (advance c) s)
  unfolding play running
  run_stops g = ap (λ (x : Script). play w x (w.perform (advance c) s)) (if-false _ _ g)

-- ---- a run on ends, where each advance that goes on leaves fewer to make

module _ {S : Type 0} (w : Stage S) (c : ReplicaId) (left : S → ℕ)
    (fewer : (s : S) → goes_on (w.judge (advance c) s) ≡ true → left (w.perform (advance c) s) < left s) where
  pub run_ends : (most k : ℕ) (s : S) → left s < most → RunsOn w c k s (play w (running c most k) s)
  unfolding running play
  run_ends zero k s l = absurd (omega arith)
  run_ends (suc most) k s l =
      if-ind (λ (x : Script). RunsOn w c k s (play w x (w.perform (advance c) s))) (goes_on (w.judge (advance c) s))
      (λ g. let less = fewer s g in goes s g (run_ends most (suc k) (w.perform (advance c) s) (omega arith))) (λ g. stops s g)

  -- and then it is the same however many it may make
  pub run_enough : (most more k : ℕ) (s : S) → left s < most → left s < more → play w (running c most k) s ≡ play w (running c more k) s
  run_enough zero more k s l m = absurd (omega arith)
  run_enough (suc most) zero k s l m = absurd (omega arith)
  run_enough (suc most) (suc more) k s l m =
      go (goes_on (w.judge (advance c) s)) refl (λ g. let less = fewer s g in
      run_enough most more (suc k) (w.perform (advance c) s) (omega arith) (omega arith))
    where
      next : S
      next = w.perform (advance c) s

      go : (b : Bool) → goes_on (w.judge (advance c) s) ≡ b
          → (goes_on (w.judge (advance c) s) ≡ true → play w (running c most (suc k)) next ≡ play w (running c more (suc k)) next)
          → play w (running c (suc most) k) s ≡ play w (running c (suc more) k) s
      go true g same = run_further w c most k s g ∙ same g ∙ sym (run_further w c more k s g)
      go false g same = run_stops w c most k s g ∙ sym (run_stops w c more k s g)
