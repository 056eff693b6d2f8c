-- An audit by the bytes of its files, and the evidence of what it claims.
use Rattle.std.specs.Prelude.{ℕ, ◌<◌, ◌^◌, ◌≡◌, ◌≤◌, [], ◌∷◌, List, Ok, length}
use Rattle.nr_spec_wire.specs.Reading.{IsBytes}
use Rattle.nr_spec_log.specs.Authenticator.{Authenticator, auths_of}
use Rattle.nr_spec_log.specs.Answer.{AnswerFile, answer_of}
use Rattle.nr_spec_history.specs.Conflicts.{Period}
use Rattle.nr_spec_evidence.specs.Evidence.{EvidenceFile, evidence_file, most_answer, most_evidence, most_promise}
use Rattle.nr_spec_truth.specs.Truths.{meant}
use Rattle.nr_spec_outcome.specs.Report.{Report, claims_of}
use Rattle.nr_spec_outcome.specs.Outcome.{outcome}
use Rattle.nr_spec_texts.specs.Promises.{PromiseFile, audited_by, promise_of}

-- what an audit goes by: the root of a network's key, the bytes of an answer file, of a promise file and of a file of
-- authenticators, and a period
pub record Audit : Type 0 where
  pub root : List ℕ
  pub answer : List ℕ
  pub promise : List ℕ
  pub auths : List ℕ
  pub period : Period

-- The answer and the authenticators are bytes, and each end of the period has eight.
pub record HasBytes (audit : Audit) : Type 0 where
  pub answer : IsBytes audit.answer
  pub auths : IsBytes audit.auths
  pub from : audit.period.from < 2 ^ 64
  pub to : audit.period.to < 2 ^ 64

-- The files are in their grammars, and the audit of what they hold gives this report.
pub record Reports (audit : Audit) (report : Report) : Type 0 where
  pub answer : AnswerFile
  pub promise : PromiseFile
  pub auths : List Authenticator
  pub answer_reads : answer_of audit.answer ≡ Ok answer
  pub promise_reads : promise_of audit.promise ≡ Ok promise
  pub auths_read : auths_of audit.auths ≡ Ok auths
  pub outcome_is : outcome audit.root (audited_by promise ∷ []) (meant (promise.says ∷ [])) answer audit.period auths
      ≡ Ok report

-- the evidence of what it claims
abbrev pub evidence_of_report : Audit → Report → EvidenceFile
evidence_of_report audit report = record {
  answer = audit.answer;
  promise = audit.promise;
  period = audit.period;
  claims = claims_of report;
}

-- The answer, the promise text and the whole evidence have the sizes of their files.
pub record HasRoom (audit : Audit) (report : Report) : Type 0 where
  pub answer : length audit.answer ≤ most_answer
  pub promise : length audit.promise ≤ most_promise
  pub whole : length (evidence_file (evidence_of_report audit report)) ≤ most_evidence
