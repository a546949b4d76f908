use Rattle.model.proofs.Branches.{told}
use Rattle.advance.proofs.NoticeLaws.{one_past, found, all_past}
use Rattle.advance.proofs.notices.first_notice.Goals as goal

pub returns-then-is_sent : goal.returns-then-is_sent
returns-then-is_sent c = search (found, told)

pub loop-sender-preserved : goal.loop-sender-preserved
loop-sender-preserved c = search (one_past, told)

pub returns : goal.returns
returns c = search all_past
