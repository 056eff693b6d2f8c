use Rattle.nr_laws_record.proofs.Whole.{run_refused}
use Rattle.nr_laws_record.proofs.records.refused_turns_leave_those_before.Goals as goal

pub returns : goal.returns
returns c = run_refused
