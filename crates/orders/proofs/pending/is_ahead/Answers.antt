use Rattle.orders.proofs.PendingLaws.{turned_ahead}
use Rattle.orders.proofs.pending.is_ahead.Goals as goal

pub returns : goal.returns
returns c = search turned_ahead
