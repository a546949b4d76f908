use Rattle.files.proofs.FoundLaws.{told_all}
use Rattle.format.proofs.file_record.Goals as goal

pub returns-in-Ok : goal.returns-in-Ok
returns-in-Ok c = told_all _ _ c.in-Ok.ensures

pub returns-in-Err : goal.returns-in-Err
returns-in-Err c = told_all _ _ c.in-Err.ensures
