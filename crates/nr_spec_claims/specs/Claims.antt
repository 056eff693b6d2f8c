-- When a claim of an audit is true: by the root, the answer, the promise files and the period alone.
use Rattle.std.specs.Prelude.{ℕ, ◌-◌, ◌&&◌, ◌==◌, [], Bool, Err, List, None, Ok, Option, Result, Some, false, filter, map, nat_le, slice_get, take}
use Rattle.std.specs.List.{list_any}
use Rattle.nr_spec_log.specs.Chain.{LogEntry}
use Rattle.nr_spec_log.specs.Answer.{AnswerFile}
use Rattle.nr_spec_history.specs.Conflicts.{Period, answer_links, is_conflict}
use Rattle.nr_spec_counts.specs.declared.cause.Cause.{Cause}
use Rattle.nr_spec_counts.specs.Tallies.{Numbers}
use Rattle.nr_spec_counts.specs.Causes.{cause_number}
use Rattle.nr_spec_report.specs.Wrong.{Base, cause_after, is_within, nothing_before}
use Rattle.nr_spec_report.specs.Claims.{Broken, Claim, Conflict, Wrong}
use Rattle.nr_spec_runs.specs.Runs.{Key, Span, key_of, runs_of}
use Rattle.nr_spec_truth.specs.Truths.{Truth}
use Rattle.nr_spec_promises.specs.Files.{PromiseFile}
use Rattle.nr_spec_promises.specs.Moments.{moments}
use Rattle.nr_spec_promises.specs.Broken.{is_broken, moment_at}
use Rattle.nr_spec_outcome.specs.Outcome.{Audited, Fact, numbers_of_all, outcome, promise_files}

-- ---- a wrong entry

abbrev pub has_number : ℕ → Option Cause → Bool
has_number number None = false
has_number number (Some cause) = cause_number cause == number

-- There is such an entry, its time is in the period, and its first cause, by these before it, has this number.
abbrev pub is_wrong_at : List Numbers → Base → Period → ℕ → ℕ → List LogEntry → Option LogEntry → Bool
is_wrong_at files base period seq cause past None = false
is_wrong_at files base period seq cause past (Some e) =
    is_within period e.time && has_number cause (cause_after files base past seq e)

-- The entry of this number, among entries of which the first has another, is wrong by this cause.
unfoldable pub is_wrong_entry : List Numbers → Base → Period → ℕ → List LogEntry → ℕ → ℕ → Bool
is_wrong_entry files base period first entries seq cause =
    nat_le first seq
    && is_wrong_at files base period seq cause (take (seq - first) entries) (slice_get entries (seq - first))

-- ---- a broken promise

abbrev pub same_span : Span → Span → Bool
same_span s t = s.begin == t.begin && s.end == t.end

-- Some broken run of the key has this span.
unfoldable pub is_broken_run : List PromiseFile → Truth → Base → Period → List LogEntry → Key → Span → Bool
is_broken_run files truth base period entries key span =
    list_any (same_span span)
    (filter (is_broken files key)
    (runs_of period.to (map (moment_at files truth key) (moments files base period entries))))

-- ---- claims

abbrev pub span_of : ℕ → ℕ → Span
span_of begin end = record { begin = begin; end = end }

abbrev pub is_true_claim : List ℕ → List Audited → Truth → Base → AnswerFile → Period → Claim → Bool
is_true_claim root files truth base answer period (Conflict auth) =
    is_conflict root answer.asn period (answer_links answer) auth
is_true_claim root files truth base answer period (Wrong seq cause) =
    is_wrong_entry (numbers_of_all files) base period answer.first answer.entries seq cause
is_true_claim root files truth base answer period (Broken file promise prefix begin end) =
    is_broken_run (promise_files files) truth base period answer.entries (key_of file promise prefix)
    (span_of begin end)

-- the same fact where an audit is refused
abbrev pub in_place : {A B : Type 0} → B → Result A Fact → Result B Fact
in_place value (Ok report) = Ok value
in_place value (Err fact) = Err fact

-- What a verifier answers: the fact for which an audit of the answer is refused, or of each claim whether it is true.
unfoldable pub judged : List ℕ → List Audited → Truth → AnswerFile → Period → List Claim → Result (List Bool) Fact
judged root files truth answer period claims =
    in_place (map (is_true_claim root files truth nothing_before answer period) claims)
    (outcome root files truth answer period [])
