-- A crash on the memories, judged by the record that the words have.
use Rattle.std.specs.Prelude.{ℕ, not, ◌&&◌, ◌||◌, List, [], ◌∷◌, leb, ltb, eqb, length}
use Rattle.model.specs.declared.Numbers.{Numbers}
use Rattle.model.specs.declared.Refusal.TheVariants.{ShortTable, SpoiledRecord, NoSuchReplica, Crashed}
use Rattle.model.specs.declared.Effect.{Effect}
use Rattle.model.specs.declared.Effect.TheVariants.{Refuse, Halt}
use Rattle.model.specs.Tests.{if}
use Rattle.model.specs.Limits.{limited}
use Rattle.model.specs.TurnedAway.{◌when◌, unless}
use Rattle.tables.specs.Layout.{record_end, record_at}
use Rattle.tables.specs.Checks.{spoiled_at}

-- a crash of the record that the words have of c: 3, 2, 4, 5
unfoldable pub crash_judged : Numbers → ℕ → List ℕ → Effect
crash_judged N c ws =
    unless Refuse (
    SpoiledRecord when (not (limited N) || ltb c N.n && spoiled_at N ws c) ∷ ShortTable when (ltb c N.n && ltb (length ws) (record_end c))
    ∷ NoSuchReplica when leb N.n c ∷ Crashed when not (eqb (record_at ws c).crashed 0) ∷ []
    ) Halt

-- the same where the record is not there
abbrev pub crash_missing : Numbers → ℕ → Effect
crash_missing N c = if (limited N) (if (ltb c N.n) (Refuse ShortTable) (Refuse NoSuchReplica)) (Refuse SpoiledRecord)
