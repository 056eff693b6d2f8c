-- What an audit prints.
use Rattle.std.proofs.Common.{◌≡◌, ◌↔◌, inl, ℕ, Bool, true, false, List, [], ◌∷◌, ◌++◌, append-nil, Option, Some, None, Ok, Err, Result, refl, ap, sym, subst, ◌∙◌}
use Rattle.std.specs.Str.{bytes_eq}
use Rattle.std.specs.Prelude.{◌==◌, nat_le, not}
use Rattle.nr_spec_log.specs.Answer.{AnswerFile}
use Rattle.nr_spec_log.specs.Authenticator.{Authenticator}
use Rattle.nr_spec_log.specs.Chain.{LogEntry}
use Rattle.nr_spec_history.specs.Conflicts.{Period, answer_value, conflicts_of, is_signed}
use Rattle.nr_spec_report.specs.Wrong.{Base, wrong_entries}
use Rattle.nr_spec_runs.specs.Runs.{Run}
use Rattle.nr_spec_truth.specs.Truths.{Truth}
use Rattle.nr_spec_promises.specs.Files.{PromiseFile}
use Rattle.nr_spec_promises.specs.Moments.{Mark, moments}
use Rattle.nr_spec_promises.specs.Found.{broken_runs}
use Rattle.nr_spec_outcome.specs.Report.{Report}
use Rattle.nr_spec_outcome.specs.Lines.{report_text}
use Rattle.nr_spec_outcome.specs.Outcome.{Audited, Fact, Head, Short, Unsigned, digests_in_force, holds_or, network_fact, numbers_of_all, outcome_over, promise_fact, promise_files, refused_by, report_of}
use Rattle.nr_laws_promises.specs.BrokenRows.{IsBrokenRow, IsOneOf, PlacedRun}
use Rattle.nr_laws_promises.proofs.Rows.{members_are}
use Rattle.nr_laws_outcome.specs.Members.{IsEmpty, broken_lines, clean_line}
use Rattle.nr_laws_outcome.specs.BrokenLines.{AreBrokenLines}
use Rattle.nr_laws_outcome.specs.Nothing.{FindsNothing}
use Rattle.nr_laws_outcome.proofs.Told.{lines_in_order}
use Rattle.nr_laws_outcome.proofs.Said.{clean_is_alone, says_clean}

-- ---- the report of an audit

past_fact : (fact : Option Fact) (next : Result Report Fact) (report : Report) → refused_by fact next ≡ Ok report → next ≡ Ok report
past_fact None next report e = e
past_fact (Some fact) next report e = absurd cc

past_test : (test : Bool) (fact : Fact) (next : Result Report Fact) (report : Report) → holds_or test fact next ≡ Ok report → next ≡ Ok report
past_test true fact next report e = e
past_test false fact next report e = absurd cc

abbrev report_in : Report → Result Report Fact → Report
report_in other (Ok report) = report
report_in other (Err fact) = other

reported : (root : List ℕ) (files : List Audited) (truth : Truth) (base : Base) (answer : AnswerFile) (period : Period) (auths : List Authenticator) (report : Report)
    → outcome_over root files truth base answer period auths ≡ Ok report → report_of root files truth base answer period auths ≡ report
unfolding outcome_over
reported root files truth base answer period auths report e =
    let given : Report = report_of root files truth base answer period auths in
    let force : Option Fact = promise_fact (numbers_of_all files) (digests_in_force base period answer.entries) in
    let fits : Result Report Fact = refused_by force (Ok given) in
    let late : Result Report Fact = holds_or (not (nat_le answer.head.time period.to)) (Short answer.head.time period.to) fits in
    let whole : Result Report Fact = holds_or (bytes_eq answer.head.hash (answer_value answer)) (Head answer.head.hash (answer_value answer)) late in
    let signed : Result Report Fact = holds_or (is_signed root answer.head) Unsigned whole in
    ap (report_in given) (past_fact force (Ok given) report
    (past_test (not (nat_le answer.head.time period.to)) (Short answer.head.time period.to) fits report
    (past_test (bytes_eq answer.head.hash (answer_value answer)) (Head answer.head.hash (answer_value answer)) late report
    (past_test (is_signed root answer.head) Unsigned whole report
    (past_fact (network_fact answer.asn files) signed report e)))))

-- ---- nothing is found

none_one : (runs : List Run) → ((run : Run) → IsOneOf run runs → ⊥) → runs ≡ []
none_one [] none = refl
none_one (run ∷ runs) none = absurd (none run (inl refl))

no_rows : (files : List PromiseFile) (truth : Truth) (base : Base) (period : Period) (entries : List LogEntry)
    → (broken_runs files truth base period entries ≡ []) ↔ ((p : PlacedRun) → IsBrokenRow files truth (moments files base period entries) period.to p → ⊥)
no_rows files truth base period entries = (
  λ (e : broken_runs files truth base period entries ≡ []) (p : PlacedRun) (row : IsBrokenRow files truth (moments files base period entries) period.to p).
      let one : IsOneOf p.run (broken_runs files truth base period entries) = (members_are files truth base period entries p.run).1 (p.place, row) in
      let no : ⊥ = subst (IsOneOf p.run) e one in no,
  λ (none : (p : PlacedRun) → IsBrokenRow files truth (moments files base period entries) period.to p → ⊥).
      none_one (broken_runs files truth base period entries) (λ (run : Run) one.
      let row = (members_are files truth base period entries run).0 one in none (record { run = run; place = row.0 }) row.1),
)

abbrev SaysClean : List Audited → Report → Type 0
SaysClean files report = report_text (promise_files files) report ≡ clean_line

clean_of : (root : List ℕ) (files : List Audited) (truth : Truth) (base : Base) (answer : AnswerFile) (period : Period) (auths : List Authenticator)
    → SaysClean files (report_of root files truth base answer period auths) ↔ FindsNothing root files truth base answer period auths
clean_of root files truth base answer period auths = (
  λ (clean : SaysClean files given).
      let empty : IsEmpty given = (clean_is_alone (promise_files files) given [] (clean ∙ sym (append-nil clean_line))).0 in
      record {
        no_conflict = empty.no_conflict;
        no_wrong = empty.no_wrong;
        no_broken = (no_rows (promise_files files) truth base period answer.entries).0 empty.no_broken;
      },
  λ (nothing : FindsNothing root files truth base answer period auths).
      says_clean (promise_files files) given (record {
        no_conflict = nothing.no_conflict;
        no_wrong = nothing.no_wrong;
        no_broken = (no_rows (promise_files files) truth base period answer.entries).1 nothing.no_broken;
      }),
)
  where
    given : Report
    given = report_of root files truth base answer period auths

pub clean_where_nothing : (root : List ℕ) (files : List Audited) (truth : Truth) (base : Base) (answer : AnswerFile) (period : Period) (auths : List Authenticator) (report : Report)
    → outcome_over root files truth base answer period auths ≡ Ok report
    → (report_text (promise_files files) report ≡ clean_line) ↔ FindsNothing root files truth base answer period auths
clean_where_nothing root files truth base answer period auths report e =
    subst (λ (r : Report). SaysClean files r ↔ FindsNothing root files truth base answer period auths)
    (reported root files truth base answer period auths report e) (clean_of root files truth base answer period auths)

pub audited_lines : (root : List ℕ) (files : List Audited) (truth : Truth) (base : Base) (answer : AnswerFile) (period : Period) (auths : List Authenticator) (report : Report)
    → outcome_over root files truth base answer period auths ≡ Ok report
    → AreBrokenLines (promise_files files) truth (moments (promise_files files) base period answer.entries) period.to (broken_lines (promise_files files) report.broken)
audited_lines root files truth base answer period auths report e =
    subst (λ (r : Report). AreBrokenLines (promise_files files) truth (moments (promise_files files) base period answer.entries) period.to (broken_lines (promise_files files) r.broken))
    (reported root files truth base answer period auths report e)
    ((lines_in_order (promise_files files) truth base period answer.entries
    (broken_lines (promise_files files) (broken_runs (promise_files files) truth base period answer.entries))).1 refl)
