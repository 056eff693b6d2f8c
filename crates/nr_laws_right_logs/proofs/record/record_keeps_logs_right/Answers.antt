use Rattle.nr_laws_right_logs.proofs.Crashing.{run_ended, run_stopped}
use Rattle.nr_laws_right_logs.proofs.record.record_keeps_logs_right.Goals as goal

pub returns-clause-ended : goal.returns-clause-ended
returns-clause-ended c = run_ended

pub returns-clause-stopped : goal.returns-clause-stopped
returns-clause-stopped c = run_stopped
