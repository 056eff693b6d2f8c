use Rattle.nr_spec_crash.specs.Images.{IsImage}
use Rattle.nr_spec_program.specs.Recording.{record_plan}
use Rattle.nr_laws_crash.proofs.CrashLaws.{crash_after}
use Rattle.nr_laws_recording.proofs.Whole.{record_crash, unborn_crash}
use Rattle.nr_laws_recording.proofs.record.a_stopped_record_leaves_first_turns.Goals as goal

pub returns-clause-kept : goal.returns-clause-kept
returns-clause-kept c = λ q log image old new t result told keeps fits runs left.
    record_crash q log image old t told keeps fits (crash_after (record_plan q) old new result (λ m. IsImage m q.log image) runs left)

pub returns-clause-unborn : goal.returns-clause-unborn
returns-clause-unborn c = λ q image old new t result told awaits fits runs left.
    unborn_crash q image old t told awaits fits (crash_after (record_plan q) old new result (λ m. IsImage m q.log image) runs left)
