use Rattle.files.specs.Reported.{whole}
use Rattle.session.proofs.ReportLaws.{readable, ends_opened, ends_unopened}
use Rattle.session.proofs.play.Goals as goal

pub put_benches-requires : goal.put_benches-requires
put_benches-requires c = let e = c.play_records-last.ensures in let r = c.to_read-read.ensures in
    rw (r.words, r.orders) (readable _ _ _ _ _ (e.outcome, e.text) c.in-Some.is)

pub returns-in-Some-clause-outcome : goal.returns-in-Some-clause-outcome
unfolding whole
returns-in-Some-clause-outcome c = c.play_records-last.ensures.outcome

pub returns-in-Some-clause-text : goal.returns-in-Some-clause-text
returns-in-Some-clause-text c = let e = c.play_records-last.ensures in let r = c.to_read-read.ensures in
    ends_opened _ _ _ _ _ (e.outcome, e.text) c.in-Some.is (rw (← r.words, ← r.orders) c.put_benches.ensures.text)

pub returns-in_default-clause-outcome : goal.returns-in_default-clause-outcome
unfolding whole
returns-in_default-clause-outcome c = c.play_records-last.ensures.outcome

pub returns-in_default-clause-text : goal.returns-in_default-clause-text
returns-in_default-clause-text c = let e = c.play_records-last.ensures in ends_unopened _ _ _ _ _ (e.outcome, e.text) c.in_default.is
