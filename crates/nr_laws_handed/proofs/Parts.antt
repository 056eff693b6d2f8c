-- The two parts of a run of `audit`: what is read, and what is saved.
use Rattle.std.proofs.Common.{◌≡◌, ℕ, List, [], Option, Some, Result, Ok, Err, refl, sym, ap, subst, ◌∙◌, inl, inr, ◌⊎◌, ⊎_elim}
use Rattle.nr_spec_plans.specs.Disk.{Disk, Memory}
use Rattle.nr_spec_plans.specs.Plans.{Done, Room, Halt, Refused, Faulted, Runs, followed_by, halting, ◌>>=◌}
use Rattle.nr_spec_plans.specs.Laws.{Each, IsRead}
use Rattle.nr_spec_plans.specs.Steps.{OnlyBy}
use Rattle.nr_spec_plans.proofs.PlanLaws.{each_followed, taken_apart}
use Rattle.nr_spec_plans.proofs.StepLaws.{done_only}
use Rattle.nr_spec_log.specs.Authenticator.{auths_of}
use Rattle.nr_spec_slices.specs.Reading.{slice_of}
use Rattle.nr_spec_evidence.specs.Evidence.{EvidenceFile}
use Rattle.nr_spec_saving.specs.Saving.{TooLong, save_evidence}
use Rattle.nr_spec_commands.specs.Words.{AuditRequest, Audit}
use Rattle.nr_spec_program.specs.Command.{AnswerInput, well_formed, Ending, Refusal, Work, audit_ending, evidence_plan, judged, long_evidence}
use Rattle.nr_spec_program.specs.Table.{plan_of}
use Rattle.nr_spec_program.specs.Causes.{Reported, reported_plan}
use Rattle.nr_laws_program.proofs.Parts.{refused_apart}
use Rattle.nr_laws_program.proofs.PlanKinds.{KindReads, concluded_each, load_each, promise_each, well_formed_each}
use Rattle.nr_laws_program.proofs.AuditLaws.{audit_parts, evidence_for, kept, rest, told_well}

-- ---- what is read

reads : (name : List ℕ) → KindReads IsRead name
reads name = record { ask = tt; read = λ size. tt }

pub reported_each : (q : AuditRequest) → Each IsRead (reported_plan q)
unfolding reported_plan
reported_each q =
    each_followed IsRead _ _ (promise_each IsRead q.promise (reads q.promise)) (λ promise.
    each_followed IsRead _ _ (load_each IsRead _ q.answer (reads q.answer)) (λ answer_bytes.
    each_followed IsRead (Room (well_formed AnswerInput (slice_of answer_bytes))) _ (well_formed_each IsRead _ (slice_of answer_bytes)) (λ answer.
    each_followed IsRead _ _ (load_each IsRead _ q.auths (reads q.auths)) (λ auths_bytes.
    each_followed IsRead _ _ (well_formed_each IsRead _ (auths_of auths_bytes)) (λ auths.
    each_followed IsRead (Room (judged q.root promise answer q.period auths)) _ (concluded_each IsRead _) (λ report. tt))))))

reads_only : (q : AuditRequest) (old new : Disk) (result : Result Reported (Halt Refusal)) → Runs (reported_plan q) old new result → OnlyBy IsRead old new
reads_only q old new result runs = done_only IsRead (reported_plan q) old new result (reported_each q) runs

-- a report was got, and the second part came to this
pub record Halves (q : AuditRequest) (old new : Disk) (result : Result Ending (Halt Refusal)) : Type 0 where
  pub reported : Reported
  pub read : Disk
  pub gets : Runs (reported_plan q) old read (Ok reported)
  pub only : OnlyBy IsRead old read
  pub keeps : Runs (kept q reported) read new result

-- nothing was done but reading, and no ending was given
pub record Unsaved (old new : Disk) (result : Result Ending (Halt Refusal)) : Type 0 where
  pub only : OnlyBy IsRead old new
  pub stopped : (ending : Ending) → result ≡ Ok ending → ⊥

not_given : (halt : Halt Refusal) (result : Result Ending (Halt Refusal)) → result ≡ Err halt → (ending : Ending) → result ≡ Ok ending → ⊥
not_given halt result is ending gave = absurd cc

halves : (q : AuditRequest) (old new : Disk) (result : Result Ending (Halt Refusal)) → Runs (plan_of (Audit q)) old new result → Unsaved old new result ⊎ Halves q old new result
unfolding Runs followed_by
halves q old new result runs =
    ⊎_elim
    (λ w.
    let only = reads_only q old w.0 (Ok w.1) w.2 in
    ⊎_elim
    (λ none. inl (record { only = subst (λ (d : Disk). OnlyBy IsRead old d) (sym none.0) only; stopped = not_given (Faulted Memory) result none.1 }))
    (λ keeps. inr (record { reported = w.1; read = w.0; gets = w.2; only = only; keeps = keeps })) w.3)
    (λ w. inl (record { only = reads_only q old new (Err w.0) w.1; stopped = not_given w.0 result w.2 }))
    (taken_apart (reported_plan q) (rest q) old new result (subst (λ (p : Work Ending). Runs p old new result) (sym (audit_parts q)) runs))

pub halves_in : (q : AuditRequest) (old new : Disk) (result : Result Ending (Halt Refusal)) → Runs (Room (plan_of (Audit q))) old new result → Unsaved old new result ⊎ Halves q old new result
unfolding Runs
halves_in q old new result (inl (same, is)) = inl (record { only = record { steps = []; lead = same; each = tt }; stopped = not_given (Faulted Memory) result is })
halves_in q old new result (inr runs) = halves q old new result runs

-- ---- what is saved

-- what is given, by what came of saving
abbrev pub given_by : Ending → Result (Unit {0}) (Halt TooLong) → Result Ending (Halt Refusal)
given_by last (Ok x) = Ok last
given_by last (Err (Refused refusal)) = Err (Refused (long_evidence refusal))
given_by last (Err (Faulted fault)) = Err (Faulted fault)

pub record Keeps (name : List ℕ) (e : EvidenceFile) (last : Ending) (old new : Disk) (result : Result Ending (Halt Refusal)) : Type 0 where
  pub inner : Result (Unit {0}) (Halt TooLong)
  pub saves : Runs (save_evidence name e) old new inner
  pub gives : result ≡ given_by last inner

halts_by : (last : Ending) (inner : Result (Unit {0}) (Halt TooLong)) (halt : Halt Refusal) → ◌≡◌ {A = Result (Unit {0}) (Halt Refusal)} (Err halt) (halting long_evidence inner) → ◌≡◌ {A = Result Ending (Halt Refusal)} (Err halt) (given_by last inner)
halts_by last (Ok x) halt is = absurd cc
halts_by last (Err (Refused refusal)) halt is = let e : halt ≡ Refused (long_evidence refusal) = cc in ap (λ h. Err h) e
halts_by last (Err (Faulted fault)) halt is = let e : halt ≡ Faulted fault = cc in ap (λ h. Err h) e

evidence_keeps : (name : List ℕ) (e : EvidenceFile) (last : Ending) (old new : Disk) (result : Result Ending (Halt Refusal)) → Runs (evidence_plan (Some name) e >>= λ saved. Done last) old new result → Keeps name e last old new result
unfolding Runs evidence_plan
evidence_keeps name e last old new result runs =
    ⊎_elim
    (λ w.
    let a = refused_apart long_evidence (save_evidence name e) old w.0 (Ok w.1) w.2 in
    let well = told_well a.0 w.1 a.2 in
    record {
      inner = Ok tt;
      saves = subst (λ (d : Disk). Runs (save_evidence name e) old d (Ok tt)) (sym w.3.0) (subst (λ (r : Result (Unit {0}) (Halt TooLong)). Runs (save_evidence name e) old w.0 r) well a.1);
      gives = w.3.1;
    })
    (λ w.
    let a = refused_apart long_evidence (save_evidence name e) old new (Err w.0) w.1 in
    record { inner = a.0; saves = a.1; gives = w.2 ∙ halts_by last a.0 w.0 a.2 })
    (taken_apart (evidence_plan (Some name) e) (λ saved. Done last) old new result runs)

pub kept_keeps : (q : AuditRequest) (name : List ℕ) (r : Reported) (old new : Disk) (result : Result Ending (Halt Refusal)) → q.evidence ≡ Some name → Runs (kept q r) old new result
    → Keeps name (evidence_for q r) (audit_ending r.promise r.report) old new result
kept_keeps q name r old new result is runs =
    evidence_keeps name (evidence_for q r) (audit_ending r.promise r.report) old new result
    (subst (λ (given : Option (List ℕ)). Runs (evidence_plan given (evidence_for q r) >>= λ saved. Done (audit_ending r.promise r.report)) old new result) is runs)

-- the evidence was saved, where the ending is given
pub gave_well : (last : Ending) (inner : Result (Unit {0}) (Halt TooLong)) (ending : Ending) → Ok ending ≡ given_by last inner → (inner ≡ Ok tt) × (ending ≡ last)
gave_well last (Ok x) ending is = (refl, cc)
gave_well last (Err (Refused refusal)) ending is = absurd cc
gave_well last (Err (Faulted fault)) ending is = absurd cc

pub gave_refusal : (last : Ending) (inner : Result (Unit {0}) (Halt TooLong)) (refusal : Refusal) → Err (Refused refusal) ≡ given_by last inner → (long : TooLong) × (inner ≡ Err (Refused long))
gave_refusal last (Ok x) refusal is = absurd cc
gave_refusal last (Err (Refused long)) refusal is = (long, refl)
gave_refusal last (Err (Faulted fault)) refusal is = absurd cc
