use Rattle.nr_laws_record.proofs.Whole.{run_leaves}
use Rattle.nr_laws_record.proofs.records.record_leaves_first_turns.Goals as goal

pub returns : goal.returns
returns c = run_leaves
