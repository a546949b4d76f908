use Rattle.messages.proofs.HearLaws.{sort_1, sort_2, sort_3, sort_4}
use Rattle.messages.proofs.hearing.sort_named.Goals as goal

pub returns-in-1 : goal.returns-in-1
returns-in-1 c = search sort_1

pub returns-in-2 : goal.returns-in-2
returns-in-2 c = search sort_2

pub returns-in-3 : goal.returns-in-3
returns-in-3 c = search sort_3

pub returns-in_default : goal.returns-in_default
returns-in_default c = search sort_4
