-- What a run of `audit` leaves.
use Rattle.std.proofs.Common.{◌≡◌, ◌≢◌, ℕ, List, Option, Some, None, Result, Ok, Err, refl, sym, ap, subst, ◌∙◌, inl, inr, ◌⊎◌, ⊎_elim}
use Rattle.nr_spec_plans.specs.Disk.{Contents, Disk, Tape, Told}
use Rattle.nr_spec_plans.specs.Plans.{Done, Room, Halt, Refused, Runs, followed_by, ◌>>=◌}
use Rattle.nr_spec_plans.specs.Laws.{Each, IsLeftBy, IsRead, Unchanged}
use Rattle.nr_spec_plans.specs.Steps.{OnlyBy}
use Rattle.nr_spec_plans.proofs.PlanLaws.{each_followed}
use Rattle.nr_spec_evidence.specs.Evidence.{EvidenceFile, evidence_file}
use Rattle.nr_spec_saving.specs.Saving.{TooLong, save_evidence}
use Rattle.nr_laws_saving.proofs.EvidenceLaws.{evidence_declined, evidence_fits, evidence_left, evidence_saved}
use Rattle.nr_spec_outcome.specs.Report.{Report}
use Rattle.nr_spec_commands.specs.Words.{AuditRequest, Audit, request_in}
use Rattle.nr_spec_program.specs.Command.{Ending, Refusal, audit_ending, evidence_plan}
use Rattle.nr_spec_program.specs.Running.{RunsTo}
use Rattle.nr_spec_program.specs.Table.{plan_for, plan_of}
use Rattle.nr_spec_program.specs.Causes.{Answered, LeavesFiles, Reported}
use Rattle.nr_laws_program.specs.Replies.{LeftByWriting}
use Rattle.nr_laws_program.proofs.Phases.{SparesContents, only_unchanged, only_writes, spares_contents}
use Rattle.nr_laws_program.proofs.PlanKinds.{evidence_each}
use Rattle.nr_laws_program.proofs.FileLaws.{runs_for, told_still}
use Rattle.nr_laws_program.proofs.ReplyLaws.{one_held}
use Rattle.nr_laws_program.proofs.AuditLaws.{evidence_for, gave_report, is_report, kept}
use Rattle.nr_laws_verify.specs.Audits.{evidence_of_report}
use Rattle.nr_laws_handed.specs.Handed.{Shows, LeavesEvidence, audit_of, evidence_by}
use Rattle.nr_laws_handed.proofs.Parts.{Halves, gave_refusal, gave_well, halves_in, kept_keeps}
use Rattle.nr_laws_handed.proofs.Got.{evidence_is, reported_gives}

-- ---- where a report was offered

offers_evidence : (q : AuditRequest) (name : List ℕ) (old new : Disk) (t : Told) (ending : Ending) → q.evidence ≡ Some name → old.told ≡ Some t → Halves q old new (Ok ending) → LeavesEvidence q name t new ending
offers_evidence q name old new t ending is told h =
    let r = h.reported in
    let m = told_still old.told h.read.told t told (only_unchanged old h.read h.only).holds in
    let got = reported_gives q old h.read t r told h.gets in
    let k = kept_keeps q name r h.read new (Ok ending) is h.keeps in
    let well = gave_well (audit_ending r.promise r.report) k.inner ending k.gives in
    let saves = subst (λ (result : Result (Unit {0}) (Halt TooLong)). Runs (save_evidence name (evidence_for q r)) h.read new result) well.0 k.saves in
    let made = subst (λ (e : EvidenceFile). Runs (save_evidence name e) h.read new (Ok tt)) (evidence_is t.holds q r got) saves in
    let e = evidence_of_report (audit_of t.holds q) r.report in
    let s = evidence_saved name e h.read new m.0 m.1 made in
    record {
      report = r.report;
      by = got.by;
      offers = well.1 ∙ ap (λ p. audit_ending p r.report) (sym got.promise);
      room = record { answer = got.answer_fits; promise = got.promise_fits; whole = (evidence_fits name e h.read new made).fits };
      now = s.now;
      told = s.told;
      saved = record { holds = s.saved.holds; synced = s.saved.synced; others = λ other ne. s.saved.others other ne ∙ ap (λ h. h other) m.2 };
    }

ends_so : (q : AuditRequest) (name : List ℕ) (old new : Disk) (t : Told) (ending : Ending) → q.evidence ≡ Some name → old.told ≡ Some t → Runs (Room (plan_of (Audit q))) old new (Ok ending) → LeavesEvidence q name t new ending
ends_so q name old new t ending is told runs =
    ⊎_elim (λ none. absurd (none.stopped ending refl)) (λ h. offers_evidence q name old new t ending is told h) (halves_in q old new (Ok ending) runs)

pub run_leaves : (words : List (List ℕ)) (q : AuditRequest) (name : List ℕ) (old new : Disk) (before after : Tape) (status : ℕ) (t : Told) → request_in words ≡ Some (Audit q) → q.evidence ≡ Some name → old.told ≡ Some t
    → (run : RunsTo (plan_for words) old new before after status) → Answered (λ s. (s ≡ 0) ⊎ (s ≡ 1)) run.ending status → LeavesEvidence q name t new run.ending
run_leaves words q name old new before after status t is given told run low =
    let g = gave_report (Room (plan_of (Audit q))) old new run.result run.ending (runs_for words (Audit q) old new run.result is run.runs) run.concludes (is_report run.ending run.delivers.got status run.delivers.answers low) in
    ends_so q name old new t run.ending given told g.runs

-- ---- whatever came of it

kept_spares : (q : AuditRequest) (name : List ℕ) (r : Reported) (other : List ℕ) → q.evidence ≡ Some name → other ≢ name → Each (SparesContents other) (kept q r)
kept_spares q name r other is ne =
    each_followed (SparesContents other) (evidence_plan q.evidence (evidence_for q r)) _ (evidence_each (SparesContents other) q.evidence (evidence_for q r) (λ n given. record { cut = apart n given; write = λ at bytes. apart n given; sync = tt })) (λ saved. tt)
  where
    apart : (n : List ℕ) → q.evidence ≡ Some n → other ≢ n
    apart n given same = let e : n ≡ name = cc in ne (same ∙ e)

MayLeave : (q : AuditRequest) (name : List ℕ) (old new : Disk) (t : Told) → Type 0
MayLeave q name old new t =
    Unchanged old.told new.told
    ⊎ ((report : Report) × Shows (audit_of t.holds q) report × ((u : Told) × (new.told ≡ Some u) × LeftByWriting name (evidence_by t.holds q report) t u))

halves_leave : (q : AuditRequest) (name : List ℕ) (old new : Disk) (t : Told) (result : Result Ending (Halt Refusal)) → q.evidence ≡ Some name → old.told ≡ Some t → Halves q old new result → MayLeave q name old new t
unfolding MayLeave
halves_leave q name old new t result is told h =
    let r = h.reported in
    let m = told_still old.told h.read.told t told (only_unchanged old h.read h.only).holds in
    let got = reported_gives q old h.read t r told h.gets in
    let k = kept_keeps q name r h.read new result is h.keeps in
    let e = evidence_of_report (audit_of t.holds q) r.report in
    let saves = subst (λ (e : EvidenceFile). Runs (save_evidence name e) h.read new k.inner) (evidence_is t.holds q r got) k.saves in
    let l = evidence_left name e h.read new m.0 k.inner m.1 saves in
    inr (
      r.report,
      got.by,
      (
        l.now,
        l.told,
        record {
          left = subst (λ (held : Contents). IsLeftBy (evidence_file e) (held name) (l.now.holds name)) m.2 l.left;
          others = λ other ne. one_held other h.read.told new.told m.0 l.now m.1 l.told (spares_contents other (kept q r) h.read new result (kept_spares q name r other is ne) h.keeps) ∙ ap (λ h. h other) m.2;
        },
      ),
    )

may_leave : (q : AuditRequest) (name : List ℕ) (old new : Disk) (t : Told) (result : Result Ending (Halt Refusal)) → q.evidence ≡ Some name → old.told ≡ Some t → Runs (Room (plan_of (Audit q))) old new result → MayLeave q name old new t
unfolding MayLeave
may_leave q name old new t result is told runs =
    ⊎_elim (λ none. inl (only_unchanged old new none.only)) (λ h. halves_leave q name old new t result is told h) (halves_in q old new result runs)

pub run_may_leave : (words : List (List ℕ)) (q : AuditRequest) (name : List ℕ) (old new : Disk) (before after : Tape) (status : ℕ) (t : Told) → request_in words ≡ Some (Audit q) → q.evidence ≡ Some name → old.told ≡ Some t
    → RunsTo (plan_for words) old new before after status
    → Unchanged old.told new.told
    ⊎ ((report : Report) × Shows (audit_of t.holds q) report × ((u : Told) × (new.told ≡ Some u) × LeftByWriting name (evidence_by t.holds q report) t u))
unfolding MayLeave
run_may_leave words q name old new before after status t is given told run = may_leave q name old new t run.result given told (runs_for words (Audit q) old new run.result is run.runs)

-- ---- where it is refused

leaves_by : (old new : Disk) → OnlyBy IsRead old new → LeavesFiles old new
leaves_by old new only = record { told = only_unchanged old new only; writes = only_writes old new only; only = only }

none_refused : (e : EvidenceFile) (last : Ending) (read new : Disk) (refusal : Refusal) → Runs (evidence_plan None e >>= λ saved. Done last) read new (Err (Refused refusal)) → new ≡ read
unfolding Runs evidence_plan followed_by
none_refused e last read new refusal (same, gave) = same

kept_refused : (q : AuditRequest) (r : Reported) (given : Option (List ℕ)) (read new : Disk) (refusal : Refusal) → q.evidence ≡ given → Runs (kept q r) read new (Err (Refused refusal)) → new ≡ read
kept_refused q r None read new refusal is runs =
    none_refused (evidence_for q r) (audit_ending r.promise r.report) read new refusal
    (subst (λ (given : Option (List ℕ)). Runs (evidence_plan given (evidence_for q r) >>= λ saved. Done (audit_ending r.promise r.report)) read new (Err (Refused refusal))) is runs)
kept_refused q r (Some name) read new refusal is runs =
    let k = kept_keeps q name r read new (Err (Refused refusal)) is runs in
    let long = gave_refusal (audit_ending r.promise r.report) k.inner refusal k.gives in
    (evidence_declined name (evidence_for q r) read new long.0 (subst (λ (result : Result (Unit {0}) (Halt TooLong)). Runs (save_evidence name (evidence_for q r)) read new result) long.1 k.saves)).2

refused_leaves : (q : AuditRequest) (old new : Disk) (refusal : Refusal) → Runs (Room (plan_of (Audit q))) old new (Err (Refused refusal)) → LeavesFiles old new
refused_leaves q old new refusal runs =
    ⊎_elim
    (λ none. leaves_by old new none.only)
    (λ h. subst (λ (d : Disk). LeavesFiles old d) (sym (kept_refused q h.reported q.evidence h.read new refusal refl h.keeps)) (leaves_by old h.read h.only))
    (halves_in q old new (Err (Refused refusal)) runs)

pub run_refused : (words : List (List ℕ)) (q : AuditRequest) (refusal : Refusal) (old new : Disk) (before after : Tape) (status : ℕ) → request_in words ≡ Some (Audit q) → (run : RunsTo (plan_for words) old new before after status)
    → run.result ≡ Err (Refused refusal) → LeavesFiles old new
run_refused words q refusal old new before after status is run gave =
    refused_leaves q old new refusal (subst (λ (result : Result Ending (Halt Refusal)). Runs (Room (plan_of (Audit q))) old new result) gave (runs_for words (Audit q) old new run.result is run.runs))
