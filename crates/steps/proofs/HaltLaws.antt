-- A crash on the memories: that `judge` gives what its one record does, what it stores, and that this is the definition's step.
use Prim.Native.Nat.{ℕ}
use mathlib.Core.Bool.{Bool, false, not, ◌&&◌, ◌||◌, or-false as or_no}
use mathlib.Core.List.{List}
use mathlib.Core.Path.{◌≡◌, refl, sym, ◌∙◌, ap}
use lib.Dec.{leb, ltb, eqb}
use lib.ListN.{length}
use Rattle.model.specs.declared.Numbers.{Numbers}
use Rattle.model.specs.declared.ReplicaId.{ReplicaId}
use Rattle.model.specs.declared.Refusal.TheVariants.{ShortTable, SpoiledRecord, NoSuchReplica, Crashed}
use Rattle.model.specs.declared.Effect.{Effect}
use Rattle.model.specs.declared.Effect.TheVariants.{Refuse, Halt}
use Rattle.model.specs.declared.Act.TheVariants.{Crash}
use Rattle.model.specs.declared.Step.{Step}
use Rattle.model.specs.declared.Answer.TheVariants.{Done}
use Rattle.tables.specs.declared.Record.{Record}
use Rattle.model.specs.Tests.{if}
use Rattle.model.specs.Limits.{limited}
use Rattle.model.specs.TurnedAway.{unless}
use Rattle.model.specs.Rules.{own_rule}
use Rattle.model.specs.Scripts.{ended}
use Rattle.tables.specs.Layout.{Tables, record_end, record_at, record_stored}
use Rattle.tables.specs.Checks.{spoiled_at}
use Rattle.tables.specs.Write.{halted}
use Rattle.tables.specs.Calls.{tables, judge, stepped}
use Rattle.effects.specs.Doable.{RecordThere}
use Rattle.effects.proofs.CarryLaws.{stopped}
use Rattle.acts.proofs.GateLaws.{admits}
use Rattle.acts.proofs.StepLaws.{doable, stores}
use Rattle.steps.specs.Crashing.{crash_judged}

module _ (N : Numbers) (strip : List ℕ) (c : ReplicaId) (ws os bs : List ℕ) where
  open N use {n}

  abbrev T : Tables
  T = tables ws os bs

  abbrev k : Record
  k = record_at ws c.0

  abbrev step : Step
  step = record { who = c; act = Crash }

  -- it is judged by the record of its replica
  behind : judge N strip step T ≡ crash_judged N c.0 ws
  unfolding judge crash_judged unless if own_rule
  behind =
      ap (λ (e : Effect). if (not (limited N) || ltb c.0 n && spoiled_at N ws c.0) (Refuse SpoiledRecord)
      (if (ltb c.0 n && ltb (length ws) (record_end c.0)) (Refuse ShortTable) e))
      (admits N strip T c (λ _. Halt) false false refl
      ∙ ap (λ (b : Bool). if b (Refuse NoSuchReplica) (if (not (eqb k.crashed 0)) (Refuse Crashed) Halt)) (or_no (leb n c.0)))

  module _ {e : Effect} (found : e ≡ crash_judged N c.0 ws) where
    pub crash_judges : e ≡ judge N strip step T
    crash_judges = found ∙ sym behind

  module _ (found : Halt ≡ crash_judged N c.0 ws) where
    pub halt_asked : RecordThere c.0 ws
    halt_asked = doable N strip step T (crash_judges found)

    pub crash_made : {ws' : List ℕ} → ws' ≡ record_stored ws c.0 (halted k) → ended Done (tables ws' os bs) ≡ stepped N strip step T
    crash_made q = stores N strip step T (crash_judges found) refl refl (stopped N c.0 T q)
