-- What an audit gives: the first fact that refuses the answer, or the report.
use Rattle.std.specs.Prelude.{if◌then◌else◌, ℕ, ◌==◌, [], ◌∷◌, ◌++◌, Bool, Err, List, None, Ok, Option, Result, Some, filter, is_none, map, nat_le, nat_lt, not, option_map}
use Rattle.std.specs.List.{find, flat_map}
use Rattle.std.specs.Str.{bytes_eq}
use Rattle.nr_spec_log.specs.Chain.{LogEntry}
use Rattle.nr_spec_log.specs.Authenticator.{Authenticator}
use Rattle.nr_spec_log.specs.Answer.{AnswerFile}
use Rattle.nr_spec_history.specs.Conflicts.{Period, answer_value, conflicts_of, is_signed}
use Rattle.nr_spec_entry.specs.ContentReading.{content_of}
use Rattle.nr_spec_counts.specs.Tallies.{Numbers, promise_in, tally_after}
use Rattle.nr_spec_counts.specs.Causes.{file_with}
use Rattle.nr_spec_typing.specs.declared.text.Promise.{Promise as Promised}
use Rattle.nr_spec_truth.specs.Truths.{Truth}
use Rattle.nr_spec_report.specs.Wrong.{Base, is_within, nothing_before, wrong_entries}
use Rattle.nr_spec_promises.specs.Files.{PromiseFile}
use Rattle.nr_spec_promises.specs.Found.{broken_runs}
use Rattle.nr_spec_outcome.specs.Report.{Report}

-- an audited promise file: the AS whose promises it has, its numbers, and its promises
pub record Audited : Type 0 where
  pub network : ℕ
  pub numbers : Numbers
  pub promises : List Promised

-- what an answer is refused for, with the values that show it
pub data Fact : Type 0 where
  -- it doesn't start with entry 1
  Form : Fact
  -- it is of another AS than a promise file
  Network : (found : ℕ) (wanted : ℕ) → Fact
  -- its head isn't signed under the audited root
  Unsigned : Fact
  -- its head has another hash than the chain's last value
  Head : (head : List ℕ) (chain : List ℕ) → Fact
  -- its head's time isn't above the period's end
  Short : (head : ℕ) (to : ℕ) → Fact
  -- a promise in force in the period is that of no promise file, or none is in force; beside it the first file's digest
  Promise : (found : Option (List ℕ)) (file : List ℕ) → Fact

-- ---- networks

-- the first promise file of another AS
abbrev pub file_of_other : ℕ → List Audited → Option Audited
file_of_other asn files = find (λ (f : Audited). not (asn == f.network)) files

abbrev pub network_fact : ℕ → List Audited → Option Fact
network_fact asn files = option_map (λ f. Network asn f.network) (file_of_other asn files)

-- ---- promises in force

abbrev pub numbers_of_all : List Audited → List Numbers
numbers_of_all files = map (λ f. f.numbers) files

-- a file by its digest and its promises
abbrev pub promise_file : Audited → PromiseFile
promise_file f = record { digest = f.numbers.digest; promises = f.promises }

abbrev pub promise_files : List Audited → List PromiseFile
promise_files files = map promise_file files

abbrev pub digest_list : Option Numbers → List (List ℕ)
digest_list None = []
digest_list (Some promise) = promise.digest ∷ []

-- the digest of an entry that is a PROMISE in the grammar
abbrev pub promised : LogEntry → List (List ℕ)
promised e = digest_list (promise_in (content_of e))

-- the promise in force before a period: after all entries with a time before it
abbrev pub force_before : Base → Period → List LogEntry → Option Numbers
force_before base period entries = (tally_after base.tally (filter (λ e. nat_lt e.time period.from) entries)).in_force

-- the digests of the promises in it, in order: those of the PROMISE entries with a time in the period
abbrev pub digests_within : Period → List LogEntry → List (List ℕ)
digests_within period entries = flat_map promised (filter (λ e. is_within period e.time) entries)

abbrev pub digests_in_force : Base → Period → List LogEntry → List (List ℕ)
digests_in_force base period entries = digest_list (force_before base period entries) ++ digests_within period entries

abbrev pub is_of_no_file : List Numbers → List ℕ → Bool
is_of_no_file files digest = is_none (file_with digest files)

-- the first digest of no promise file; or that there is none, where no promise is in force
abbrev pub misfit : List Numbers → List (List ℕ) → Option (Option (List ℕ))
misfit files [] = Some None
misfit files (digest ∷ others) = option_map Some (find (is_of_no_file files) (digest ∷ others))

abbrev pub first_digest : List Numbers → List ℕ
first_digest [] = []
first_digest (file ∷ others) = file.digest

abbrev pub promise_fact : List Numbers → List (List ℕ) → Option Fact
promise_fact files digests = option_map (λ found. Promise found (first_digest files)) (misfit files digests)

-- ---- the outcome

-- a fact that refuses, or else what is asked next
abbrev pub refused_by : {A : Type 0} → Option Fact → Result A Fact → Result A Fact
refused_by (Some fact) next = Err fact
refused_by None next = next

-- a fact that refuses where the test isn't met, or else what is asked next
abbrev pub holds_or : {A : Type 0} → Bool → Fact → Result A Fact → Result A Fact
holds_or test fact next = if test then next else Err fact

abbrev pub report_of : List ℕ → List Audited → Truth → Base → AnswerFile → Period → List Authenticator → Report
report_of root files truth base answer period auths = record {
  conflicts = conflicts_of root answer period auths;
  wrong = wrong_entries (numbers_of_all files) base period answer.first answer.entries;
  broken = broken_runs (promise_files files) truth base period answer.entries;
}

-- the first fact that refuses an answer with a base, or the report
unfoldable pub outcome_over : List ℕ → List Audited → Truth → Base → AnswerFile → Period → List Authenticator
    → Result Report Fact
outcome_over root files truth base answer period auths =
    refused_by (network_fact answer.asn files)
    (holds_or (is_signed root answer.head) Unsigned
    (holds_or (bytes_eq answer.head.hash (answer_value answer)) (Head answer.head.hash (answer_value answer))
    (holds_or (not (nat_le answer.head.time period.to)) (Short answer.head.time period.to)
    (refused_by (promise_fact (numbers_of_all files) (digests_in_force base period answer.entries))
    (Ok (report_of root files truth base answer period auths))))))

-- the same of a whole log
unfoldable pub outcome : List ℕ → List Audited → Truth → AnswerFile → Period → List Authenticator → Result Report Fact
outcome root files truth answer period auths =
    holds_or (answer.first == 1) Form (outcome_over root files truth nothing_before answer period auths)
