-- What every step but a crash asks first: what each test leaves known, and each way out of those behind 3.
use mathlib.Core.Path.{◌≡◌, sym, ◌∙◌, ap}
use mathlib.Core.Bool.{Bool, true, false, not}
use mathlib.Core.List.{List}
use Prim.Native.Nat.{ℕ, ◌*◌}
use lib.Dec.{leb, ltb, eqb}
use borrow.Author.Tests.{not-false}
use Rattle.std.specs.Prelude.{Result, Ok, Err, ⊤}
use Rattle.model.specs.declared.Numbers.{Numbers}
use Rattle.model.specs.declared.Refusal.{Refusal}
use Rattle.model.specs.declared.Refusal.TheVariants.{ShortTable, NoSuchReplica, Crashed}
use Rattle.tables.specs.declared.Lengths.{Lengths}
use Rattle.tables.specs.declared.Record.{Record}
use Rattle.model.specs.Tests.{if}
use Rattle.model.specs.Limits.{limited}
use Rattle.model.specs.TurnedAway.{unless}
use Rattle.model.proofs.Branches.{told}
use Rattle.model.proofs.Cases.{or_false}
use Rattle.tables.specs.Layout.{record_at}
use Rattle.tables.specs.declared.Memory.{Memory}
use Rattle.tables.specs.declared.MemoryRef.{MemoryRef}
use Rattle.tables.specs.Lent.{held, read, Reads, reads_held}
use Rattle.tables.specs.Checks.{lengths, long}
use Rattle.tables.specs.Bounds.{Bounds, bounds}
use Rattle.refusals.specs.Vet.{run_spoiled, vetted}

-- where 3 is not met, the numbers are within the limits
pub in_bounds : (N : Numbers) (ws : List ℕ) → run_spoiled N ws ≡ false → Bounds N
in_bounds N ws h = bounds N (not-false _ (or_false (not (limited N)) _ h).0)

-- ---- 2, 4, 5

-- the lengths of a memory, measured where it was lent to be read
pub measured : {m : Memory} {r : MemoryRef} {l : Lengths} → l ≡ lengths (read r) → Reads m r → l ≡ lengths (held m)
measured q e = q ∙ ap lengths (reads_held e)

module _ (N : Numbers) (c d : ℕ) (l : Lengths) (st : ℕ) (ws : List ℕ) where
  abbrev Gives : Result ⊤ Refusal → Type 0
  Gives v = v ≡ vetted N c d l st ws

  -- one law for each way out, in the order of the tests
  pub on_short : long N l ≡ false → Gives (Err ShortTable)
  unfolding vetted unless if
  on_short g = rw g

  module _ (g : long N l ≡ true) where
    pub on_strip : ltb st (N.slots * N.phases) ≡ true → Gives (Err ShortTable)
    unfolding vetted unless if
    on_strip s = rw (g, s)

    module _ (s : ltb st (N.slots * N.phases) ≡ false) where
      pub on_nobody : leb N.n c ≡ true → Gives (Err NoSuchReplica)
      unfolding vetted unless if
      on_nobody h = rw (g, s, h)

      pub on_other : leb N.n c ≡ false → leb N.n d ≡ true → Gives (Err NoSuchReplica)
      unfolding vetted unless if
      on_other h i = rw (g, s, h, i)

      module _ {k : Record} (h : leb N.n c ≡ false) (i : leb N.n d ≡ false) (p : k ≡ record_at ws c) where
        pub on_crashed : eqb k.crashed 0 ≡ false → Gives (Err Crashed)
        unfolding vetted unless if
        on_crashed o = rw (g, s, h, i, ← p, o)

        pub on_running : eqb k.crashed 0 ≡ true → Gives (Ok tt)
        unfolding vetted unless if
        on_running o = rw (g, s, h, i, ← p, o)
