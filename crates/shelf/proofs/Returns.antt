-- What Point 7 says of the two calls, as theorems about their definitions.
use Rattle.std.specs.Prelude.{ℕ, ◌*◌, ◌^◌, ◌≤◌, ◌≡◌, List, length, take}
use Rattle.std.proofs.Math.Bool.{not}
use Rattle.std.proofs.Common.{ap, arith}
use borrow.Author.Tests.{le-ltb, eq-eqb}
use Rattle.model.specs.declared.Answer.TheVariants.{Done}
use Rattle.model.specs.Scripts.{ended}
use Rattle.model.proofs.Cases.{Unmet}
use Rattle.shelf.specs.Planes.{entry_bytes, planes, entry_count, entries_of}
use Rattle.shelf.specs.Calls.{planes_refusals, entries_refusals, over, to_planes, to_entries}
use Rattle.shelf.specs.Layouts.{Below, length_planes, length_entries}
use Rattle.shelf.proofs.Layouts.{planes_again}
use Rattle.shelf.proofs.Again.{entries_again}
use Rattle.shelf.specs.Returns.{EntriesFit, PlanesFit, accepts, entries_accepted, front, planes_accepted}

-- ---- accepted exactly if within the limits, with room for the result

module _ (entries output : List ℕ) where
  pub planes_accept : PlanesFit entries output → to_planes entries output ≡ ended Done (over (planes entries) output)
  unfolding Unmet
  planes_accept f = accepts (planes_refusals entries output) (planes entries) output (le-ltb _ _ f.few, (le-ltb _ _ f.room, tt))

module _ (stored output : List ℕ) where
  pub entries_accept : EntriesFit stored output → to_entries stored output ≡ ended Done (over (entries_of stored) output)
  unfolding Unmet
  entries_accept f =
      accepts (entries_refusals stored output) (entries_of stored) output
      (le-ltb _ _ f.few, (ap not (eq-eqb _ _ f.even), (le-ltb _ _ f.room, tt)))

-- ---- "Doing both, from either side, returns the start": what an accepted call wrote is accepted by the other, which writes what
-- the first was given

pub entries_return : (entries output back : List ℕ) → Below (2 ^ 64) entries → (to_planes entries output).answer ≡ Done → length entries ≤ length back
    → to_entries (take (entry_bytes * length entries) (to_planes entries output).state) back ≡ ended Done (over entries back)
entries_return entries output back fit done room =
    let many = length_planes entries in
    let stored : take (entry_bytes * length entries) (to_planes entries output).state ≡ planes entries
    = rw (planes_accept entries output (planes_accepted entries output done)) (front (planes entries) output many) in
    let few = (planes_accepted entries output done).few in
    let read = entries_accept (planes entries) back (record { few = omega arith; even = omega arith; room = omega arith }) in
    rw (stored, read, entries_again entries fit)

pub planes_return : (stored output back : List ℕ) → Below 256 stored → (to_entries stored output).answer ≡ Done → length stored ≤ length back
    → to_planes (take (entry_count stored) (to_entries stored output).state) back ≡ ended Done (over stored back)
planes_return stored output back fit done room =
    let within = entries_accepted stored output done in
    let many = length_entries stored in
    let entries : take (entry_count stored) (to_entries stored output).state ≡ entries_of stored
    = rw (entries_accept stored output within) (front (entries_of stored) output many) in
    let written = planes_accept (entries_of stored) back (record { few = omega (arith, within.few); room = omega (arith, within.even) }) in
    rw (entries, written, planes_again stored fit within.even)
