-- Saving evidence as a step of this program's plans.
use Rattle.std.proofs.Common.{◌≡◌, List, ℕ, None, Some, Ok, Err, refl, inl}
use Rattle.nr_spec_plans.specs.Disk.{Disk, Memory}
use Rattle.nr_spec_plans.specs.Plans.{Faulted, Runs}
use Rattle.nr_spec_plans.proofs.PlanLemmas.{refused_as}
use Rattle.nr_spec_evidence.specs.Evidence.{EvidenceFile}
use Rattle.nr_spec_saving.specs.Saving.{save_evidence}
use Rattle.nr_spec_program.specs.Command.{evidence_plan, long_evidence}
use Rattle.nr_saving.specs.Views as saving
use Rattle.nr_saving.specs.declared.fault.SaveError.{SaveError}
use Rattle.nr_saving.specs.declared.fault.SaveError.TheVariants as save
use Rattle.nr_command_parts.specs.declared.refusal.Stop.{Stop}
use Rattle.nr_command_parts.specs.Views.{unsaved_of, why}

-- nothing is saved where no evidence is asked for
pub unasked : (e : EvidenceFile) (old : Disk) → Runs (evidence_plan None e) old old (Ok tt)
unfolding evidence_plan Runs
unasked e old = (refl, refl)

pub saved_ok : (name : List ℕ) (e : EvidenceFile) (old new : Disk) → Runs (save_evidence name e) old new (Ok tt) → Runs (evidence_plan (Some name) e) old new (Ok tt)
unfolding evidence_plan
saved_ok name e old new runs = refused_as long_evidence (save_evidence name e) old new (Ok tt) runs

-- memory may run out before the evidence is spelled
pub unspelled : (name : List ℕ) (e : EvidenceFile) (old : Disk) → Runs (evidence_plan (Some name) e) old old (Err (Faulted Memory))
unfolding evidence_plan save_evidence Runs
unspelled name e old = refused_as long_evidence (save_evidence name e) old old (Err (Faulted Memory)) (inl (refl, refl))

pub saved_err : (name : List ℕ) (e : EvidenceFile) (old new : Disk) (fault : SaveError) (s : Stop) → Runs (save_evidence name e) old new (Err (saving.why fault)) → s ≡ unsaved_of fault
    → Runs (evidence_plan (Some name) e) old new (Err (why s))
unfolding evidence_plan
saved_err name e old new (save.TooLong size) s runs is = rw is (refused_as long_evidence (save_evidence name e) old new _ runs)
saved_err name e old new save.Failed s runs is = rw is (refused_as long_evidence (save_evidence name e) old new _ runs)
saved_err name e old new save.Memory s runs is = rw is (refused_as long_evidence (save_evidence name e) old new _ runs)

pub ruleset saving_reports = (unasked, saved_ok, unspelled, saved_err)
