use Rattle.nr_spec_plans.proofs.PlanLaws.{counts_one}
use Rattle.nr_laws_program.proofs.laws.one_fault_ends_a_run.Goals as goal

pub returns : goal.returns
returns c = λ plan old new before after status run. counts_one plan old new run.result run.runs
