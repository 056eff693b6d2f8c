-- Evidence that an audit writes and a verifier reads: what a run of `audit` leaves of it, and what one of `verify` tells
-- of it.
use Rattle.std.specs.Prelude.{◌≡◌, ◌≢◌, ◌⊎◌, ℕ, List, [], ◌∷◌, ◌++◌, length, Result, Err, Ok, Some, codes}
use Rattle.std.specs.Fmt.{decimal}
use Rattle.std.specs.List.{flat_map}
use Rattle.nr_spec_wire.specs.Reading.{IsBytes}
use Rattle.nr_spec_log.specs.Authenticator.{Authenticator, auths_of}
use Rattle.nr_spec_log.specs.Answer.{AnswerFile, answer_of}
use Rattle.nr_spec_history.specs.Lines.{line}
use Rattle.nr_spec_plans.specs.Disk.{Contents, Disk, Fault, Memory, Tape, Told, bytes_of, taking}
use Rattle.nr_spec_plans.specs.Laws.{Saved, fault_in}
use Rattle.nr_spec_plans.specs.Plans.{Halt}
use Rattle.nr_spec_report.specs.Claims.{Claim}
use Rattle.nr_spec_evidence.specs.Evidence.{evidence_file}
use Rattle.nr_spec_outcome.specs.Report.{Report}
use Rattle.nr_spec_truth.specs.Truths.{meant}
use Rattle.nr_spec_slices.specs.Reading.{slice_of}
use Rattle.nr_spec_slices.specs.Audits.{outcome_of}
use Rattle.nr_spec_texts.specs.Promises.{PromiseFile, audited_by, promise_of}
use Rattle.nr_spec_commands.specs.Words.{AuditRequest, VerifyRequest}
use Rattle.nr_spec_program.specs.Command.{Ending, Refusal, audit_ending, fault_ending}
use Rattle.nr_spec_program.specs.Causes.{NoneRose}
use Rattle.nr_laws_verify.specs.Audits.{Audit, HasRoom, evidence_of_report}

-- ---- what is saved

-- the audit that is asked for, of what the files hold
abbrev pub audit_of : Contents → AuditRequest → Audit
audit_of held q = record {
  root = q.root;
  answer = bytes_of (held q.answer);
  promise = bytes_of (held q.promise);
  auths = bytes_of (held q.auths);
  period = q.period;
}

-- The files are in their grammars, and the audit of what they hold gives this report.
pub record Shows (audit : Audit) (report : Report) : Type 0 where
  pub answer : AnswerFile
  pub promise : PromiseFile
  pub auths : List Authenticator
  pub answer_reads : slice_of audit.answer ≡ Ok answer
  pub promise_reads : promise_of audit.promise ≡ Ok promise
  pub auths_read : auths_of audit.auths ≡ Ok auths
  pub outcome_is : outcome_of audit.root (audited_by promise ∷ []) (meant (promise.says ∷ [])) answer audit.period auths
      ≡ Ok report

-- the evidence of its report
abbrev pub evidence_by : Contents → AuditRequest → Report → List ℕ
evidence_by held q report = evidence_file (evidence_of_report (audit_of held q) report)

-- The audit of what the files held gives a report, whose text is offered. Its evidence has the size of its file, and
-- this holds it, synced; every other file holds what it held.
pub record LeavesEvidence (q : AuditRequest) (name : List ℕ) (t : Told) (new : Disk) (e : Ending) : Type 0 where
  pub report : Report
  pub by : Shows (audit_of t.holds q) report
  pub offers : e ≡ audit_ending by.promise report
  pub room : HasRoom (audit_of t.holds q) report
  pub now : Told
  pub told : new.told ≡ Some now
  pub saved : Saved name (evidence_by t.holds q report) t now

-- ---- what is handed on

-- The answer file and that of the authenticators hold bytes.
pub record HoldsBytes (held : Contents) (q : AuditRequest) : Type 0 where
  pub answer : IsBytes (bytes_of (held q.answer))
  pub auths : IsBytes (bytes_of (held q.auths))

-- The answer file is that of a whole log: it starts with entry 1.
abbrev pub HoldsWhole : Contents → AuditRequest → Type 0
HoldsWhole held q = (answer : AnswerFile) → answer_of (bytes_of (held q.answer)) ≡ Ok answer → answer.first ≡ 1

-- A verifier goes by the root of the audit, and has under the name of its evidence what another disk holds under this
-- one.
pub record IsHanded (q : AuditRequest) (r : VerifyRequest) (name : List ℕ) (left given : Disk) : Type 0 where
  pub root : r.root ≡ q.root
  pub written : Told
  pub found : Told
  pub left_tells : left.told ≡ Some written
  pub given_tells : given.told ≡ Some found
  pub same : found.holds r.evidence ≡ written.holds name

-- ---- what is told

-- that each of these claims is accepted
abbrev pub accepted_ending : List Claim → Ending
accepted_ending claims = record {
  status = 0;
  text = line (codes "claims" ∷ decimal (length claims) ∷ [])
      ++ flat_map (λ claim. line (codes "accepted" ∷ [])) claims;
}

-- A run of `verify` tells that it accepts each of these claims, where neither a fault nor want of memory ends it. Where
-- no count of faults rose and there was memory, its status is 0 and the sink took that text whole.
pub record Accepts (claims : List Claim) (old new : Disk) (before after : Tape) (status : ℕ)
    (result : Result Ending (Halt Refusal)) (e : Ending) : Type 0 where
  pub ending : (e ≡ accepted_ending claims)
      ⊎ ((e ≡ fault_ending Memory) ⊎ ((fault : Fault) × (fault_in result ≡ Err fault) × (e ≡ fault_ending fault)))
  pub whole : NoneRose old new before after → status ≢ 6
      → (status ≡ 0) × (after ≡ taking (accepted_ending claims).text before)
