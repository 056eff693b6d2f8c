-- What a run of `audit` prints.
use Rattle.std.proofs.Common.{◌≡◌, ℕ, List, Option, Some, None, Ok, refl, sym, ap, subst, ◌∙◌, ◌⊎◌, ⊎_elim}
use Rattle.nr_spec_wire.specs.Reading.{IsBytes}
use Rattle.nr_spec_log.specs.Chain.{LogEntry}
use Rattle.nr_spec_log.specs.Authenticator.{Authenticator}
use Rattle.nr_spec_log.specs.Answer.{AnswerFile, IsAnswer, answer_file, answer_of}
use Rattle.nr_spec_history.specs.Conflicts.{Period}
use Rattle.nr_spec_truth.specs.Truths.{Truth}
use Rattle.nr_spec_evidence.specs.Evidence.{EvidenceFile}
use Rattle.nr_spec_outcome.specs.Report.{Report}
use Rattle.nr_spec_outcome.specs.Outcome.{Audited, outcome}
use Rattle.nr_spec_slices.specs.Slices.{IsLog, IsTrue, whole}
use Rattle.nr_spec_slices.specs.Audits.{outcome_of}
use Rattle.nr_spec_slices.proofs.Sliced.{sliced}
use Rattle.nr_spec_plans.specs.Disk.{Disk, Tape, Told}
use Rattle.nr_spec_plans.specs.Plans.{Done, Room, Runs, followed_by, ◌>>=◌}
use Rattle.nr_spec_commands.specs.Words.{Audit, AuditRequest, request_in}
use Rattle.nr_spec_program.specs.Command.{Ending, audit_ending, evidence_plan}
use Rattle.nr_spec_program.specs.Running.{RunsTo}
use Rattle.nr_spec_program.specs.Table.{plan_for, plan_of}
use Rattle.nr_spec_program.specs.Causes.{Answered, Reported}
use Rattle.nr_laws_program.proofs.FileLaws.{runs_for}
use Rattle.nr_laws_program.proofs.AuditLaws.{evidence_for, gave_report, is_report, kept}
use Rattle.nr_laws_verify.specs.Audits as audits
use Rattle.nr_laws_handed.specs.Handed.{HoldsBytes, Shows, audit_of}
use Rattle.nr_laws_handed.proofs.Parts.{Halves, gave_well, halves_in, kept_keeps}
use Rattle.nr_laws_handed.proofs.Got.{reported_gives}
use Rattle.nr_laws_slices.specs.Printed.{IsTrueOf, Prints, PrintsLog, ShowsLog}

-- ---- what is offered

none_offered : (e : EvidenceFile) (last ending : Ending) (read new : Disk) → Runs (evidence_plan None e >>= λ saved. Done last) read new (Ok ending) → ending ≡ last
unfolding Runs evidence_plan followed_by
none_offered e last ending read new (same, gave) = cc

offered : (q : AuditRequest) (r : Reported) (given : Option (List ℕ)) (read new : Disk) (ending : Ending) → q.evidence ≡ given → Runs (kept q r) read new (Ok ending) → ending ≡ audit_ending r.promise r.report
offered q r None read new ending is runs =
    none_offered (evidence_for q r) (audit_ending r.promise r.report) ending read new
    (subst (λ (given : Option (List ℕ)). Runs (evidence_plan given (evidence_for q r) >>= λ saved. Done (audit_ending r.promise r.report)) read new (Ok ending)) is runs)
offered q r (Some name) read new ending is runs =
    let k = kept_keeps q name r read new (Ok ending) is runs in
    (gave_well (audit_ending r.promise r.report) k.inner ending k.gives).1

prints_by : (q : AuditRequest) (old new : Disk) (t : Told) (ending : Ending) → old.told ≡ Some t → Halves q old new (Ok ending) → Prints (audit_of t.holds q) ending
prints_by q old new t ending told h =
    let r = h.reported in
    let got = reported_gives q old h.read t r told h.gets in
    record {
      report = r.report;
      by = got.by;
      offers = offered q r q.evidence h.read new ending refl h.keeps ∙ ap (λ p. audit_ending p r.report) (sym got.promise);
    }

prints : (q : AuditRequest) (old new : Disk) (t : Told) (ending : Ending) → old.told ≡ Some t → Runs (Room (plan_of (Audit q))) old new (Ok ending) → Prints (audit_of t.holds q) ending
prints q old new t ending told runs =
    ⊎_elim (λ none. absurd (none.stopped ending refl)) (λ h. prints_by q old new t ending told h) (halves_in q old new (Ok ending) runs)

pub run_prints : (words : List (List ℕ)) (q : AuditRequest) (old new : Disk) (before after : Tape) (status : ℕ) (t : Told) → request_in words ≡ Some (Audit q) → old.told ≡ Some t
    → (run : RunsTo (plan_for words) old new before after status) → Answered (λ s. (s ≡ 0) ⊎ (s ≡ 1)) run.ending status → Prints (audit_of t.holds q) run.ending
run_prints words q old new before after status t is told run low =
    let g = gave_report (Room (plan_of (Audit q))) old new run.result run.ending (runs_for words (Audit q) old new run.result is run.runs) run.concludes (is_report run.ending run.delivers.got status run.delivers.answers low) in
    prints q old new t run.ending told g.runs

-- ---- of a log of which the answer is true

abbrev pub FindsAnswers : Type 0
FindsAnswers = (bytes : List ℕ) (answer : AnswerFile) → IsBytes bytes → answer_of bytes ≡ Ok answer → IsAnswer answer × (bytes ≡ answer_file answer)

abbrev pub HasReports : Type 0
HasReports =
    (root : List ℕ) (files : List Audited) (truth : Truth) (log : List LogEntry) (answer : AnswerFile) (period : Period) (auths : List Authenticator) (report : Report) → IsLog log → IsTrue log answer → IsAnswer answer
    → outcome_of root files truth answer period auths ≡ Ok report → outcome root files truth (whole log answer) period auths ≡ Ok report

shows_log : FindsAnswers → HasReports → (audit : audits.Audit) (log : List LogEntry) (report : Report) → IsBytes audit.answer → IsLog log → IsTrueOf log audit → (s : Shows audit report) → ShowsLog audit log report
shows_log finds has audit log report bytes is true_of s =
    let reads = (sliced audit.answer s.answer s.answer_reads).reads in
    let fits = (finds audit.answer s.answer bytes reads).0 in
    record {
      answer = s.answer;
      promise = s.promise;
      auths = s.auths;
      answer_reads = s.answer_reads;
      promise_reads = s.promise_reads;
      auths_read = s.auths_read;
      outcome_is = has audit.root _ _ log s.answer audit.period s.auths report is (true_of s.answer s.answer_reads) fits s.outcome_is;
    }

pub run_prints_log : FindsAnswers → HasReports
    → (words : List (List ℕ)) (q : AuditRequest) (old new : Disk) (before after : Tape) (status : ℕ) (t : Told) (log : List LogEntry) → request_in words ≡ Some (Audit q) → old.told ≡ Some t
    → HoldsBytes t.holds q → IsLog log → IsTrueOf log (audit_of t.holds q) → (run : RunsTo (plan_for words) old new before after status)
    → Answered (λ s. (s ≡ 0) ⊎ (s ≡ 1)) run.ending status → PrintsLog (audit_of t.holds q) log run.ending
unfolding shows_log run_prints
run_prints_log finds has words q old new before after status t log is told holds log_is true_of run low =
    let p = run_prints words q old new before after status t is told run low in
    record { report = p.report; by = shows_log finds has (audit_of t.holds q) log p.report holds.answer log_is true_of p.by; offers = p.offers }
