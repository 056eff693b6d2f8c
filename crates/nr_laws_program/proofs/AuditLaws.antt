-- What an audit saves of its report.
use Rattle.std.proofs.Common.{◌≡◌, ℕ, ◌≤◌, List, Option, Some, Result, Ok, Err, refl, sym, subst, inl, inr, ◌⊎◌, ⊎_elim, arith}
use Rattle.nr_spec_plans.specs.Disk as disk
use Rattle.nr_spec_plans.specs.Plans.{Done, Room, Halt, Refused, Faulted, Runs, followed_by, halting, want, ◌>>=◌}
use Rattle.nr_spec_plans.proofs.PlanLaws.{taken_apart}
use Rattle.nr_spec_log.specs.Authenticator.{auths_of}
use Rattle.nr_spec_slices.specs.Reading.{slice_of}
use Rattle.nr_spec_evidence.specs.Evidence.{EvidenceFile}
use Rattle.nr_spec_saving.specs.Saving.{PartsSaved, TooLong, evidence_parts, save_evidence}
use Rattle.nr_laws_saving.proofs.EvidenceLaws.{evidence_fits}
use Rattle.nr_laws_saving.proofs.PartLaws.{parts_saved}
use Rattle.nr_spec_commands.specs.Words.{AuditRequest, Audit, request_in}
use Rattle.nr_spec_program.specs.Command.{AnswerInput, AuthsInput, Ending, Refusal, Work, audit_ending, audit_plan, evidence_of_report, evidence_plan, fault_ending, judged, load, long_evidence, promise_plan, refusal_ending, well_formed}
use Rattle.nr_spec_program.specs.Running.{RunsTo, Concludes, Answers}
use Rattle.nr_spec_program.specs.Table.{plan_for, plan_of}
use Rattle.nr_spec_program.specs.Causes.{Answered, Reported, SavesEvidence, reported_plan}
use Rattle.nr_laws_program.proofs.Outcomes.{together_so}
use Rattle.nr_laws_program.proofs.Parts.{refused_apart}
use Rattle.nr_laws_program.proofs.PlanKinds.{refusal_status}
use Rattle.nr_laws_program.proofs.StatusLaws.{answered_so}
use Rattle.nr_laws_program.proofs.FileLaws.{runs_for}

-- ---- the two parts of an audit

abbrev pub evidence_for : AuditRequest → Reported → EvidenceFile
evidence_for q r = evidence_of_report r.answer r.promise q.period r.report

-- the second part, once there is a report
abbrev pub kept : AuditRequest → Reported → Work Ending
kept q r = evidence_plan q.evidence (evidence_for q r) >>= λ saved. Done (audit_ending r.promise r.report)

abbrev pub rest : AuditRequest → Reported → Work Ending
rest q r = want >>= λ room. kept q r

pub audit_parts : (q : AuditRequest) → (reported_plan q >>= rest q) ≡ plan_of (Audit q)
unfolding plan_of audit_plan reported_plan followed_by
audit_parts q =
    together_so (promise_plan q.promise) _ (rest q) _ (λ promise.
    together_so (load AnswerInput q.answer) _ (rest q) _ (λ answer_bytes.
    together_so (Room (well_formed AnswerInput (slice_of answer_bytes))) _ (rest q) _ (λ answer.
    together_so (load AuthsInput q.auths) _ (rest q) _ (λ auths_bytes.
    together_so (well_formed AuthsInput (auths_of auths_bytes)) _ (rest q) _ (λ auths.
    together_so (Room (judged q.root promise answer q.period auths)) _ (rest q) _ (λ report. refl))))))

-- ---- what was saved

pub told_well : (inner : Result (Unit {0}) (Halt TooLong)) (x : Unit {0}) → ◌≡◌ {A = Result (Unit {0}) (Halt Refusal)} (Ok x) (halting long_evidence inner) → inner ≡ Ok tt
told_well (Ok y) x is = refl
told_well (Err (Refused refusal)) x is = absurd cc
told_well (Err (Faulted fault)) x is = absurd cc

saved_well : (name : List ℕ) (e : EvidenceFile) (old new : disk.Disk) (x : Unit {0}) → Runs (evidence_plan (Some name) e) old new (Ok x) → PartsSaved name (evidence_parts e) old new
unfolding evidence_plan
saved_well name e old new x runs =
    let w = refused_apart long_evidence (save_evidence name e) old new (Ok x) runs in
    let well = subst (λ (r : Result (Unit {0}) (Halt TooLong)). Runs (save_evidence name e) old new r) (told_well w.0 x w.2) w.1 in
    parts_saved TooLong name (evidence_parts e) old new (evidence_fits name e old new well).runs

-- the evidence was saved, and what is given is the ending of the report
record Kept (name : List ℕ) (e : EvidenceFile) (last ending : Ending) (old new : disk.Disk) : Type 0 where
  pub saves : PartsSaved name (evidence_parts e) old new
  pub is : ending ≡ last

kept_well : (name : List ℕ) (e : EvidenceFile) (last ending : Ending) (old new : disk.Disk) → Runs (evidence_plan (Some name) e >>= λ saved. Done last) old new (Ok ending) → Kept name e last ending old new
unfolding Runs
kept_well name e last ending old new runs =
    ⊎_elim
    (λ w. record {
      saves = subst (λ (d : disk.Disk). PartsSaved name (evidence_parts e) old d) (sym w.3.0) (saved_well name e old w.0 w.1 w.2);
      is = let given = w.3.1 in cc;
    })
    (λ w. absurd (let is = w.2 in cc))
    (taken_apart (evidence_plan (Some name) e) (λ saved. Done last) old new (Ok ending) runs)

audit_saves : (q : AuditRequest) (name : List ℕ) (old new : disk.Disk) (ending : Ending) → q.evidence ≡ Some name → Runs (plan_of (Audit q)) old new (Ok ending) → SavesEvidence q name ending old new
unfolding Runs followed_by
audit_saves q name old new ending is runs =
    ⊎_elim
    (λ w. ⊎_elim (λ none. absurd (let e = none.1 in cc)) (λ keeps. by_kept w.1 w.0 w.2 keeps) w.3)
    (λ w. absurd (let e = w.2 in cc))
    (taken_apart (reported_plan q) (rest q) old new (Ok ending) (subst (λ (p : Work Ending). Runs p old new (Ok ending)) (sym (audit_parts q)) runs))
  where
    by_kept : (r : Reported) (mid : disk.Disk) → Runs (reported_plan q) old mid (Ok r) → Runs (kept q r) mid new (Ok ending) → SavesEvidence q name ending old new
    by_kept r mid gets keeps =
        let k = kept_well name (evidence_for q r) (audit_ending r.promise r.report) ending mid new
        (subst (λ (given : Option (List ℕ)). Runs (evidence_plan given (evidence_for q r) >>= λ saved. Done (audit_ending r.promise r.report)) mid new (Ok ending)) is keeps) in
        record { reported = r; read = mid; gets = gets; saves = k.saves; offers = k.is }

audit_saves_in : (q : AuditRequest) (name : List ℕ) (old new : disk.Disk) (ending : Ending) → q.evidence ≡ Some name → Runs (Room (plan_of (Audit q))) old new (Ok ending) → SavesEvidence q name ending old new
unfolding Runs
audit_saves_in q name old new ending is (inl (same, said)) = absurd cc
audit_saves_in q name old new ending is (inr runs) = audit_saves q name old new ending is runs

-- ---- a status of 0 or 1

-- the statuses of a report
abbrev pub IsReports : ℕ → Type 0
IsReports status = (status ≡ 0) ⊎ (status ≡ 1)

reports_low : (status : ℕ) → IsReports status → status ≤ 1
reports_low status (inl is) = omega (arith, is)
reports_low status (inr is) = omega (arith, is)

high_three : (status : ℕ) → (status ≡ 3) ⊎ (status ≡ 7) → IsReports status → ⊥
high_three status (inl is) low = let l = reports_low status low in omega (arith, is, l)
high_three status (inr is) low = let l = reports_low status low in omega (arith, is, l)

high_fault : (fault : disk.Fault) → IsReports (fault_ending fault).status → ⊥
high_fault disk.ReadFault low = let l = reports_low 4 low in omega (arith, l)
high_fault disk.WriteFault low = let l = reports_low 5 low in omega (arith, l)
high_fault disk.Memory low = let l = reports_low 6 low in omega (arith, l)

of_ending : (e last : Ending) → e ≡ last → IsReports e.status → IsReports last.status
of_ending e last is low = subst (λ (x : Ending). IsReports x.status) is low

-- what a run gave that has such an ending
pub record Gave (plan : Work Ending) (old new : disk.Disk) (e : Ending) : Type 0 where
  pub runs : Runs plan old new (Ok e)

pub gave_report : (plan : Work Ending) (old new : disk.Disk) (result : Result Ending (Halt Refusal)) (e : Ending) → Runs plan old new result → Concludes result e → IsReports e.status → Gave plan old new e
gave_report plan old new (Ok ending) e runs is low = record { runs = subst (λ (x : Ending). Runs plan old new (Ok x)) (sym is) runs }
gave_report plan old new (Err (Refused refusal)) e runs (inl is) low = absurd (high_three (refusal_ending refusal).status (refusal_status refusal) (of_ending e (refusal_ending refusal) is low))
gave_report plan old new (Err (Refused refusal)) e runs (inr is) low = absurd (high_fault disk.Memory (of_ending e (fault_ending disk.Memory) is low))
gave_report plan old new (Err (Faulted fault)) e runs is low = absurd (high_fault fault (of_ending e (fault_ending fault) is low))

-- an ending of such a status, whether or not the sink took it
pub is_report : (e : Ending) (got : Result (Unit {0}) disk.Fault) (status : ℕ) → Answers e got status → Answered IsReports e status → IsReports e.status
is_report e got status is answered = answered_so IsReports e got status (λ five. let l = reports_low 5 five in omega (arith, l)) (λ six. let l = reports_low 6 six in omega (arith, l)) is answered

pub run_saves_evidence : (words : List (List ℕ)) (q : AuditRequest) (name : List ℕ) (old new : disk.Disk) (before after : disk.Tape) (status : ℕ) → request_in words ≡ Some (Audit q) → q.evidence ≡ Some name
    → (run : RunsTo (plan_for words) old new before after status) → Answered (λ s. (s ≡ 0) ⊎ (s ≡ 1)) run.ending status → SavesEvidence q name run.ending old new
run_saves_evidence words q name old new before after status is given run low =
    let g = gave_report (Room (plan_of (Audit q))) old new run.result run.ending (runs_for words (Audit q) old new run.result is run.runs) run.concludes (is_report run.ending run.delivers.got status run.delivers.answers low) in
    audit_saves_in q name old new run.ending given g.runs
