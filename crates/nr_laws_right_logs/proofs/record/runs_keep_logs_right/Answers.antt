use Rattle.nr_laws_right_logs.proofs.Crashing.{all_right}
use Rattle.nr_laws_right_logs.proofs.record.runs_keep_logs_right.Goals as goal

pub returns : goal.returns
returns c = all_right
