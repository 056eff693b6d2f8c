use Rattle.nr_spec_plans.proofs.PlanLaws.{spares_others}
use Rattle.nr_spec_store.specs.StorePlans.{append_plan, birth_plan, load_plan}
use Rattle.nr_laws_crash.proofs.CrashLaws.{spares_images}
use Rattle.nr_laws_calls.proofs.Steps.{append_spares, birth_spares, load_spares}
use Rattle.nr_laws_calls.proofs.calls.other_files_are_spared.Goals as goal

pub returns-clause-load : goal.returns-clause-load
returns-clause-load c = λ name other old new result ne runs. spares_others other (load_plan name) old new result (load_spares name other ne) runs

pub returns-clause-birth : goal.returns-clause-birth
returns-clause-birth c = λ name other asn root old new result ne runs. spares_others other (birth_plan name asn root) old new result (birth_spares name other asn root ne) runs

pub returns-clause-append : goal.returns-clause-append
returns-clause-append c = λ name other log entries old new result ne runs. spares_others other (append_plan name log entries) old new result (append_spares name other log entries ne) runs

pub returns-clause-load_crash : goal.returns-clause-load_crash
returns-clause-load_crash c = λ name other image old ne crash. spares_images other (load_plan name) old image (load_spares name other ne) crash

pub returns-clause-birth_crash : goal.returns-clause-birth_crash
returns-clause-birth_crash c = λ name other image asn root old ne crash. spares_images other (birth_plan name asn root) old image (birth_spares name other asn root ne) crash

pub returns-clause-append_crash : goal.returns-clause-append_crash
returns-clause-append_crash c = λ name other image log entries old ne crash. spares_images other (append_plan name log entries) old image (append_spares name other log entries ne) crash
