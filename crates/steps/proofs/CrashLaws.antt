-- A crash on the words, by whether its record is there.
use Prim.Native.Nat.{ℕ, ◌≤◌}
use native.Mathlib.Omega.{arith}
use mathlib.Core.Bool.{Bool, true, false, ◌&&◌, and-false as and_no}
use mathlib.Core.List.{List, [], ◌∷◌}
use mathlib.Core.Path.{◌≡◌, refl, sym, ◌∙◌, ap}
use lib.Dec.{leb, ltb}
use lib.ListN.{length}
use borrow.Author.Tests.{leb-true, leb-false, ltb-true, ltb-false, le-leb, le-ltb, lt-ltb}
use Rattle.model.specs.declared.Numbers.{Numbers}
use Rattle.model.specs.declared.Effect.{Effect}
use Rattle.model.specs.declared.Effect.TheVariants.{Refuse, Halt}
use Rattle.model.specs.declared.Answer.{Answer}
use Rattle.model.specs.declared.Answer.TheVariants.{Refused, Done, Ran, Opened, Conducted}
use Rattle.tables.specs.declared.Record.{Record}
use Rattle.model.specs.Tests.{if}
use Rattle.model.specs.Limits.{limited}
use Rattle.model.specs.TurnedAway.{Ground, unless}
use Rattle.model.proofs.Cases.{clash, either, and_true}
use Rattle.tables.specs.Layout.{mask_bits, record_end, record_at}
use Rattle.tables.specs.Bounds.{bounds}
use Rattle.tables.specs.Calls.{CrashOutcome, crash_outcome, crash_refusals, crashed}
use Rattle.tables.specs.Write.{halted}
use Rattle.steps.specs.Crashing.{crash_judged, crash_missing}

-- what the answer of a crash comes to
abbrev effect_of : Answer → Effect
effect_of = elim [ Refused why ↦ Refuse why | Done ↦ Halt | Ran k ↦ Halt | Opened N ↦ Halt | Conducted k m ↦ Halt ]

-- one list of refusals, read as an answer and as an effect
effect_unless : (k h : Record) (gs : List Ground)
    → effect_of (unless (λ why. crash_outcome (Refused why) k) gs (crash_outcome Done h)).answer ≡ unless Refuse gs Halt
unfolding unless if
effect_unless k h [] = refl
effect_unless k h (g ∷ gs) = go g.met (effect_unless k h gs)
  where
    rest : CrashOutcome
    rest = unless (λ why. crash_outcome (Refused why) k) gs (crash_outcome Done h)

    go : (b : Bool) → effect_of rest.answer ≡ unless Refuse gs Halt
        → effect_of (if b (crash_outcome (Refused g.why) k) rest).answer ≡ if b (Refuse g.why) (unless Refuse gs Halt)
    go true below = refl
    go false below = below

module _ (N : Numbers) (c : ℕ) (ws : List ℕ) where
  open N use {n}

  -- the words have the four of its record, and it is one of at most sixteen
  abbrev there : Bool
  there = ltb c mask_bits && leb (record_end c) (length ws)

  pub missing_is : {b : Bool} → b ≡ there → b ≡ false → crash_missing N c ≡ crash_judged N c ws
  unfolding crash_judged unless if
  missing_is {b} is gone = either (limited N)
      (λ a. either (ltb c n)
      (λ h. let few = (bounds N a).few in
      let low = ltb-true c n h in
      let short = either (leb (record_end c) (length ws))
      (λ e. clash (sym (sym is ∙ gone) ∙ (λ i. lt-ltb c mask_bits (omega arith) i && e i))) (λ e. e) in
      rw (a, h, short, lt-ltb (length ws) (record_end c) (leb-false _ _ short)))
      (λ h. rw (a, h, le-leb n c (ltb-false c n h))))
      (λ a. rw a)

  module _ {b : Bool} (is : b ≡ there) (here : b ≡ true) where
    long : record_end c ≤ length ws
    long = leb-true _ _ (and_true (ltb c mask_bits) _ (sym is ∙ here)).1

    judged_there : unless Refuse (crash_refusals N c (record_at ws c)) Halt ≡ crash_judged N c ws
    unfolding crash_judged unless if
    judged_there = rw (le-leb (record_end c) (length ws) long, le-ltb (length ws) (record_end c) long, and_no (ltb c n))

    module _ {k : Record} {a : Answer} {after : Record} (loaded : k ≡ record_at ws c) (made : crash_outcome a after ≡ crashed N c k) where
      pub made_there : effect_of a ≡ crash_judged N c ws
      unfolding crashed
      made_there =
          ap (λ (o : CrashOutcome). effect_of o.answer) (made ∙ ap (crashed N c) loaded)
          ∙ effect_unless (record_at ws c) (halted (record_at ws c)) (crash_refusals N c (record_at ws c)) ∙ judged_there
