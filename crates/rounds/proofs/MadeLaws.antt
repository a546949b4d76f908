-- Steps that are made one after another: list after list, replica after replica, and that the memories stay fine.
use Prim.Native.Nat.{ℕ, ◌+◌, ◌≤◌}
use native.Mathlib.Omega.{arith}
use native.Mathlib.Numerals.{add-one}
use mathlib.Core.Bool.{Bool, true, false}
use mir.Val.{bool_byte}
use Rattle.std.specs.Prelude.{Result, Ok, Err, is_ok}
use mathlib.Core.List.{List, [], ◌∷◌, ◌++◌}
use mathlib.Core.Path.{◌≡◌, refl, sym, ◌∙◌, ap, subst}
use Rattle.model.specs.declared.Numbers.{Numbers}
use Rattle.model.specs.declared.Effect.{Effect}
use Rattle.model.specs.declared.Effect.TheVariants.{Refuse}
use Rattle.model.specs.declared.Act.TheVariants.{Begin}
use Rattle.model.specs.declared.Step.{Step}
use Rattle.model.specs.declared.Answer.{Answer}
use Rattle.model.specs.declared.Answer.TheVariants.{Refused, Done}
use Rattle.model.specs.declared.Refusal.{Refusal}
use Rattle.model.specs.Tests.{bit}
use Rattle.model.specs.Answers.{answer_in}
use Rattle.model.specs.Conductor.{for_each, does, round_steps, slot_steps}
use Rattle.model.specs.Scripts.{Stage, Played, ended, play, accepted, answered, after_all, accepted_of}
use Rattle.model.proofs.Sequences.{after_then, accepted_then, after_more, after_past, accepted_more, accepted_past, after_one, accepted_one}
use Rattle.tables.specs.Layout.{Tables}
use Rattle.tables.specs.Calls.{judge, on_tables, stepped}
use Rattle.rounds.specs.Made.{Made}

-- an answer that is no refusal
abbrev pub accepts : Answer → Bool
accepts (Refused why) = false
accepts _ = true

-- an accepted step is answered so
answered_accepts : (e : Effect) → accepts (answered Done e) ≡ accepted e
answered_accepts (Refuse why) = refl
answered_accepts _ = refl

-- the number that the code counts it by
pub low_byte : (b : Bool) → bool_byte b ≤ 1
low_byte true = omega arith
low_byte false = omega arith

pub ok_counts : (r : Result (Unit {0}) Refusal) → bool_byte (is_ok r) ≡ bit (accepts (answer_in (λ _. Done) r))
ok_counts (Ok _) = refl
ok_counts (Err why) = refl

module _ (N : Numbers) (strip : List ℕ) where
  abbrev w : Stage Tables
  w = on_tables N strip

  -- no step
  pub made_none : (t : Tables) → Made N strip [] t t 0
  unfolding after_all accepted_of
  made_none t = record { counted = refl; left = refl }

  -- one step, as it was answered
  pub made_one : (a : Step) (t : Tables) {u : Tables} {r : Answer} {k : ℕ} → ended r u ≡ stepped N strip a t → k ≡ bit (accepts r)
      → Made N strip (a ∷ []) t u k
  unfolding stepped play
  made_one a t e q = record {
    counted = q ∙ ap (λ (o : Played Tables). bit (accepts o.answer)) e ∙ ap bit (answered_accepts (judge N strip a t)) ∙ sym (accepted_one w a t);
    left = ap (λ (o : Played Tables). o.state) e ∙ sym (after_one w a t);
  }

  -- a list behind another
  pub made_then : {xs ys : List Step} {t u v : Tables} {j k : ℕ} → Made N strip xs t u j → Made N strip ys u v k → Made N strip (xs ++ ys) t v (j + k)
  made_then {xs} {ys} {t} {u} {v} {j} {k} a b = record {
    counted = (let p = a.counted in let q = b.counted ∙ ap (accepted_of w ys) a.left in let s = accepted_then w xs ys t in omega arith);
    left = b.left ∙ ap (after_all w ys) a.left ∙ sym (after_then w xs ys t);
  }

  module _ (ok : ℕ → Bool) (steps : ℕ → List Step) where
    -- no replica yet, and one more
    pub made_start : (t : Tables) → Made N strip (for_each 0 ok steps) t t 0
    unfolding for_each
    made_start t = made_none t

    module _ (i : ℕ) {t u : Tables} {j : ℕ} (before : Made N strip (for_each i ok steps) t u j) where
      pub made_more : ok i ≡ true → {v : Tables} {k : ℕ} → Made N strip (steps i) u v k → Made N strip (for_each (i + 1) ok steps) t v (j + k)
      made_more e {v} {k} m = record {
        counted = (let p = before.counted in let q = m.counted ∙ ap (accepted_of w (steps i)) before.left in
            rw (add-one i, accepted_more w ok steps i t e) (omega arith));
        left = rw (add-one i) (m.left ∙ ap (after_all w (steps i)) before.left ∙ sym (after_more w ok steps i t e));
      }

      -- a step that is refused
      pub made_idle : ok i ≡ true → {v : Tables} → Made N strip (steps i) u v 0 → Made N strip (for_each (i + 1) ok steps) t v j
      made_idle e {v} m = subst (Made N strip (for_each (i + 1) ok steps) t v) (omega arith) (made_more e m)

      pub made_past : ok i ≡ false → Made N strip (for_each (i + 1) ok steps) t u j
      made_past e = record {
        counted = rw (add-one i) (before.counted ∙ sym (accepted_past w ok steps i t e));
        left = rw (add-one i) (before.left ∙ sym (after_past w ok steps i t e));
      }

  -- the begins, and then the rounds
  module _ (n : ℕ) (lit : ℕ → Bool) (s : ℕ) {t u v x y : Tables} {j k l m : ℕ} where
    pub made_slot : Made N strip (for_each n lit (does Begin)) t u j → Made N strip (round_steps n lit s 1 0) u v k
        → Made N strip (round_steps n lit s 2 1) v x l → Made N strip (round_steps n lit s 3 1) x y m → Made N strip (slot_steps n lit s) t y (j + k + l + m)
    unfolding slot_steps
    made_slot a b c d = subst (Made N strip (slot_steps n lit s) t y) (omega arith) (made_then a (made_then b (made_then c d)))
