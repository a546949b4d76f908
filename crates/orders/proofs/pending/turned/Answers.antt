use mathlib.Core.Path.{sym}
use Rattle.model.proofs.Branches.{tests, if-true, if-false}
use Rattle.orders.proofs.pending.turned.Goals as goal

pub returns-then-x-ge-URGENT : goal.returns-then-x-ge-URGENT
returns-then-x-ge-URGENT c = sym (if-true _ _ (search tests))

pub returns-else-x-ge-URGENT : goal.returns-else-x-ge-URGENT
returns-else-x-ge-URGENT c = sym (if-false _ _ (search tests))
