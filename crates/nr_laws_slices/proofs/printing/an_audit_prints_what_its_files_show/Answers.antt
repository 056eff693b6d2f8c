use Rattle.nr_laws_slices.proofs.Offered.{run_prints}
use Rattle.nr_laws_slices.proofs.printing.an_audit_prints_what_its_files_show.Goals as goal

pub returns : goal.returns
returns c = run_prints
