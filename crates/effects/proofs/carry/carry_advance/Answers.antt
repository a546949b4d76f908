use Rattle.effects.proofs.CarryLaws.{carried, kept, sought}
use Rattle.effects.proofs.carry.carry_advance.Goals as goal

pub returns-in-Seek-clause-left : goal.returns-in-Seek-clause-left
returns-in-Seek-clause-left c = carried _ _ _ c.in-Seek.is (sought _ _ _ c.seek.ensures)

pub returns-in_default-clause-left : goal.returns-in_default-clause-left
returns-in_default-clause-left c = let d = c.in_default in kept _ _ _ _ c.requires.1 d.not-Send d.not-Close d.not-Seek
