use Rattle.nr_spec_plans.proofs.PlanLaws.{counts_one}
use Rattle.nr_spec_plans.proofs.StepLaws.{done_by}
use Rattle.nr_spec_saving.specs.Saving.{save_parts}
use Rattle.nr_laws_saving.proofs.PartLaws.{save_touches}
use Rattle.nr_laws_saving.proofs.LeftLaws.{save_stops}
use Rattle.nr_laws_saving.proofs.parts.a_fault_ends_saving.Goals as goal

pub returns-clause-stops : goal.returns-clause-stops
returns-clause-stops g c = save_stops _

pub returns-clause-counts : goal.returns-clause-counts
returns-clause-counts g c = λ name parts old new result runs. counts_one (save_parts name parts) old new result runs

pub returns-clause-done : goal.returns-clause-done
returns-clause-done g c = λ name parts old new result runs. done_by _ (save_parts name parts) old new result (save_touches _ name parts) runs
