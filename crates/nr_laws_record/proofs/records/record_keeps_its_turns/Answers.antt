use Rattle.nr_laws_record.proofs.Whole.{run_records}
use Rattle.nr_laws_record.proofs.records.record_keeps_its_turns.Goals as goal

pub returns : goal.returns
returns c = run_records
