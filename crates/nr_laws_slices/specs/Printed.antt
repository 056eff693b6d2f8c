-- What a run of `audit` prints.
use Rattle.std.specs.Prelude.{◌≡◌, List, [], ◌∷◌, Ok}
use Rattle.nr_spec_log.specs.Chain.{LogEntry}
use Rattle.nr_spec_log.specs.Authenticator.{Authenticator, auths_of}
use Rattle.nr_spec_log.specs.Answer.{AnswerFile}
use Rattle.nr_spec_outcome.specs.Report.{Report}
use Rattle.nr_spec_outcome.specs.Outcome.{outcome}
use Rattle.nr_spec_truth.specs.Truths.{meant}
use Rattle.nr_spec_slices.specs.Reading.{slice_of}
use Rattle.nr_spec_slices.specs.Slices.{IsTrue, whole}
use Rattle.nr_spec_texts.specs.Promises.{PromiseFile, audited_by, promise_of}
use Rattle.nr_spec_program.specs.Command.{Ending, audit_ending}
use Rattle.nr_laws_verify.specs.Audits.{Audit}
use Rattle.nr_laws_handed.specs.Handed.{Shows}

-- What is offered is the text of the report that the files give, and its status.
pub record Prints (audit : Audit) (e : Ending) : Type 0 where
  pub report : Report
  pub by : Shows audit report
  pub offers : e ≡ audit_ending by.promise report

-- The file of the answer isn't in its grammar, or the answer in it is true of this log.
abbrev pub IsTrueOf : List LogEntry → Audit → Type 0
IsTrueOf log audit = (answer : AnswerFile) → slice_of audit.answer ≡ Ok answer → IsTrue log answer

-- The files are in their grammars, and the audit of this whole log, by the same root, promise file, period and
-- authenticators, gives this report.
pub record ShowsLog (audit : Audit) (log : List LogEntry) (report : Report) : Type 0 where
  pub answer : AnswerFile
  pub promise : PromiseFile
  pub auths : List Authenticator
  pub answer_reads : slice_of audit.answer ≡ Ok answer
  pub promise_reads : promise_of audit.promise ≡ Ok promise
  pub auths_read : auths_of audit.auths ≡ Ok auths
  pub outcome_is : outcome audit.root (audited_by promise ∷ []) (meant (promise.says ∷ [])) (whole log answer)
      audit.period auths ≡ Ok report

-- What is offered is the text of that report, and its status.
pub record PrintsLog (audit : Audit) (log : List LogEntry) (e : Ending) : Type 0 where
  pub report : Report
  pub by : ShowsLog audit log report
  pub offers : e ≡ audit_ending by.promise report
