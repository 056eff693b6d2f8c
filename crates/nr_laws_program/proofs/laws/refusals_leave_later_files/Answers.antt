use Rattle.nr_laws_program.proofs.RecordOrder.{run_refused_by}
use Rattle.nr_laws_program.proofs.laws.refusals_leave_later_files.Goals as goal

pub returns : goal.returns
returns c = run_refused_by
