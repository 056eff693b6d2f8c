use Rattle.nr_spec_plans.proofs.PlanLaws.{counts_one}
use Rattle.nr_spec_store.specs.StorePlans.{append_plan, birth_plan, load_plan}
use Rattle.nr_laws_calls.proofs.calls.a_fault_is_counted_once.Goals as goal

pub returns-clause-load : goal.returns-clause-load
returns-clause-load c = λ name old new result runs. counts_one (load_plan name) old new result runs

pub returns-clause-birth : goal.returns-clause-birth
returns-clause-birth c = λ name asn root old new result runs. counts_one (birth_plan name asn root) old new result runs

pub returns-clause-append : goal.returns-clause-append
returns-clause-append c = λ name log entries old new result runs. counts_one (append_plan name log entries) old new result runs
