use native.Mathlib.Omega.{arith}
use Rattle.coin.proofs.Unpacking.{packed_length, read_entry}
use Rattle.coin.proofs.table.entry_at.Goals as goal

pub bounds-coins-place : goal.bounds-coins-place
bounds-coins-place c = omega (arith, packed_length _ c.requires.1)

pub returns : goal.returns
returns c = read_entry _ c.requires.1 _ c.requires.0
