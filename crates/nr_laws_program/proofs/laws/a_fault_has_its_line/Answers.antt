use Rattle.nr_laws_program.proofs.StatusLaws.{fault_line}
use Rattle.nr_laws_program.proofs.laws.a_fault_has_its_line.Goals as goal

pub returns : goal.returns
returns c = λ plan old new before after status fault run is. fault_line run.result run.ending fault run.concludes is
