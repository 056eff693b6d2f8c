use Rattle.nr_laws_program.proofs.FileLaws.{run_reading}
use Rattle.nr_laws_program.proofs.laws.reading_changes_no_file.Goals as goal

pub returns : goal.returns
returns c = run_reading
