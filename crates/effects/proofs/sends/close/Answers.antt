use Rattle.effects.proofs.StandLaws.{own_notice, closed_by}
use Rattle.effects.proofs.sends.close.Goals as goal

pub store_mark-requires : goal.store_mark-requires
store_mark-requires c = (search, search own_notice, search)

pub returns : goal.returns
returns c = search closed_by
