use Rattle.nr_spec_plans.proofs.PlanLaws.{spares_others}
use Rattle.nr_laws_crash.proofs.CrashLaws.{spares_images}
use Rattle.nr_spec_saving.specs.Saving.{save_parts}
use Rattle.nr_laws_saving.proofs.PartLaws.{save_spares}
use Rattle.nr_laws_saving.proofs.parts.saving_spares_other_files.Goals as goal

pub returns-clause-kept : goal.returns-clause-kept
returns-clause-kept g c = λ name other parts old new result ne runs. spares_others other (save_parts name parts) old new result (save_spares _ name other parts ne) runs

pub returns-clause-crash : goal.returns-clause-crash
returns-clause-crash g c = λ name other image parts old ne crash. spares_images other (save_parts name parts) old image (save_spares _ name other parts ne) crash
