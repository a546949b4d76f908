use mathlib.Core.Path.{refl}
use Rattle.model.specs.Coins.{entries}
use Rattle.model.specs.Tests.{if}
use Rattle.coin.specs.Packed.{bits, unpacked}
use Rattle.coin.proofs.table.coin_table.Goals as goal

pub returns : goal.returns
unfolding entries if bits unpacked
returns c = refl
