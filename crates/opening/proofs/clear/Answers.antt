use Rattle.opening.proofs.ClearLaws.{one_cleared}
use Rattle.opening.proofs.clear.Goals as goal

pub loop-cell-preserved : goal.loop-cell-preserved
loop-cell-preserved g c = one_cleared _ _ _ c.loop-cell.invariant c.loop-cell-test.true
