use Rattle.nr_laws_recording.proofs.Whole.{record_crash, unborn_crash}
use Rattle.nr_laws_recording.proofs.record.a_crash_of_record_leaves_first_turns.Goals as goal

pub returns-clause-kept : goal.returns-clause-kept
returns-clause-kept c = λ q log image old t told keeps fits crash. record_crash q log image old t told keeps fits crash

pub returns-clause-unborn : goal.returns-clause-unborn
returns-clause-unborn c = λ q image old t told awaits fits crash. unborn_crash q image old t told awaits fits crash
