-- What a verifier answers of a file of evidence, in the words of an audit.
use Rattle.std.specs.Prelude.{ℕ, ◌↔◌, ◌≡◌, ◌≤◌, [], ◌∷◌, Bool, List, Ok, true}
use Rattle.std.specs.List.{AllZip}
use Rattle.nr_spec_log.specs.Authenticator.{Authenticator}
use Rattle.nr_spec_log.specs.Answer.{AnswerFile, answer_of}
use Rattle.nr_spec_history.specs.Conflicts.{Period}
use Rattle.nr_spec_report.specs.Claims.{Claim}
use Rattle.nr_spec_truth.specs.Truths.{meant}
use Rattle.nr_spec_outcome.specs.Report.{Report, claims_of}
use Rattle.nr_spec_outcome.specs.Outcome.{outcome}
use Rattle.nr_spec_evidence.specs.Evidence.{EvidenceFile, evidence_of}
use Rattle.nr_spec_texts.specs.Promises.{PromiseFile, audited_by, promise_of}
use Rattle.nr_laws_promises.specs.BrokenRows.{IsOneOf}
use Rattle.nr_laws_claims.specs.Alone.{alone}

-- An audit by this promise file, with these authenticators, gives this report.
abbrev pub GivesReport : List ℕ → PromiseFile → AnswerFile → Period → List Authenticator → Report → Type 0
GivesReport root promise answer period auths report =
    outcome root (audited_by promise ∷ []) (meant (promise.says ∷ [])) answer period auths ≡ Ok report

-- The value is true exactly where the claim is a member of the report of an audit that is shown the claim's own
-- authenticator and no other.
pub record IsVerdict (root : List ℕ) (promise : PromiseFile) (answer : AnswerFile) (period : Period) (claim : Claim)
    (value : Bool) : Type 0 where
  pub report : Report
  pub gives : GivesReport root promise answer period (alone claim) report
  pub member : (value ≡ true) ↔ IsOneOf claim (claims_of report)

-- The bytes are evidence, in which an answer, a promise text and a period in order stand. The audit of the answer isn't
-- refused, and each claim has its value, in order.
pub record AreVerdicts (root bytes : List ℕ) (values : List Bool) : Type 0 where
  pub evidence : EvidenceFile
  pub answer : AnswerFile
  pub promise : PromiseFile
  pub evidence_reads : evidence_of bytes ≡ Ok evidence
  pub answer_reads : answer_of evidence.answer ≡ Ok answer
  pub promise_reads : promise_of evidence.promise ≡ Ok promise
  pub in_order : evidence.period.from ≤ evidence.period.to
  pub report : Report
  pub gives : GivesReport root promise answer evidence.period [] report
  pub each : AllZip (IsVerdict root promise answer evidence.period) evidence.claims values
