use Rattle.nr_laws_recording.proofs.Whole.{record_ok, unborn_ok}
use Rattle.nr_laws_recording.proofs.record.record_keeps_all_that_it_appends.Goals as goal

pub returns-clause-kept : goal.returns-clause-kept
returns-clause-kept c = record_ok

pub returns-clause-unborn : goal.returns-clause-unborn
returns-clause-unborn c = unborn_ok
