-- The audit of an answer that holds the entries of a log behind some is that of the whole log.
use Rattle.std.proofs.Common.{◌≡◌, ℕ, ◌+◌, not, List, length, filter, Result, Ok, refl, sym, ap, ◌∙◌, arith}
use Rattle.std.specs.Prelude.{nat_le}
use Rattle.std.specs.Str.{bytes_eq}
use Rattle.nr_spec_log.specs.Chain.{Chain, LogEntry, links_of, value_after}
use Rattle.nr_spec_log.specs.Authenticator.{Authenticator}
use Rattle.nr_spec_log.specs.Answer.{AnswerFile}
use Rattle.nr_spec_history.specs.Conflicts.{Period, answer_value, chain_of, conflicts_of, is_conflict, is_signed}
use Rattle.nr_spec_counts.specs.Tallies.{Numbers}
use Rattle.nr_spec_report.specs.Wrong.{Base, nothing_before, wrong_entries}
use Rattle.nr_spec_truth.specs.Truths.{Truth}
use Rattle.nr_spec_promises.specs.Files.{PromiseFile}
use Rattle.nr_spec_promises.specs.Found.{broken_runs}
use Rattle.nr_spec_outcome.specs.Report.{Report}
use Rattle.nr_spec_outcome.specs.Outcome.{Audited, Fact, Head, Short, Unsigned, digests_in_force, holds_or, network_fact, numbers_of_all, outcome, outcome_over, promise_fact, promise_files, refused_by, report_of}
use Rattle.nr_spec_bodies.specs.Bases.{state_after}
use Rattle.nr_spec_slices.specs.Slices.{AreBefore, IsBehind, whole}
use Rattle.nr_laws_checkpoint.proofs.Entries.{wrong_goes_on}
use Rattle.nr_laws_checkpoint.proofs.Spans.{broken_go_on, force_goes_on}
use Rattle.nr_laws_checkpoint.proofs.Chains.{chain_then, conflicts_go_on, value_append}

-- the chain of such an answer goes on from that of the log
pub chain_behind : (before log : List LogEntry) (answer : AnswerFile) → IsBehind before log answer
    → chain_then (chain_of (whole log answer)) before ≡ chain_of answer
chain_behind before log answer is =
    let n : 1 + length before ≡ answer.first = let m = is.first in omega (arith, m) in
    let v = sym is.prev in
    λ i. record { value = v i; seq = n i }

pub value_behind : (before log : List LogEntry) (answer : AnswerFile) → IsBehind before log answer
    → answer_value (whole log answer) ≡ answer_value answer
value_behind before log answer is =
    let start = chain_of (whole log answer) in
    ap (value_after start) is.entries ∙ value_append start before answer.entries
    ∙ ap (λ (c : Chain). value_after c answer.entries) (chain_behind before log answer is)

pub conflicts_behind : (root : List ℕ) (before log : List LogEntry) (answer : AnswerFile) (period : Period) (auths : List Authenticator)
    → IsBehind before log answer → AreBefore period before → conflicts_of root answer period auths ≡ conflicts_of root (whole log answer) period auths
conflicts_behind root before log answer period auths is low =
    let start = chain_of (whole log answer) in
    sym (ap (λ (l : List LogEntry). filter (is_conflict root answer.asn period (links_of start l)) auths) is.entries
    ∙ conflicts_go_on root answer.asn period start before answer.entries auths low
    ∙ ap (λ (c : Chain). filter (is_conflict root answer.asn period (links_of c answer.entries)) auths) (chain_behind before log answer is))

pub wrong_behind : (files : List Numbers) (before log : List LogEntry) (answer : AnswerFile) (period : Period)
    → IsBehind before log answer → AreBefore period before
    → wrong_entries files (state_after nothing_before before) period answer.first answer.entries ≡ wrong_entries files nothing_before period 1 log
wrong_behind files before log answer period is low =
    let n : answer.first ≡ 1 + length before = let m = is.first in omega (arith, m) in
    sym (ap (wrong_entries files nothing_before period 1) is.entries ∙ wrong_goes_on files nothing_before period 1 before answer.entries low
    ∙ ap (λ (k : ℕ). wrong_entries files (state_after nothing_before before) period k answer.entries) (sym n))

pub broken_behind : (files : List PromiseFile) (truth : Truth) (before log : List LogEntry) (answer : AnswerFile) (period : Period)
    → IsBehind before log answer → AreBefore period before
    → broken_runs files truth (state_after nothing_before before) period answer.entries ≡ broken_runs files truth nothing_before period log
broken_behind files truth before log answer period is low =
    sym (ap (broken_runs files truth nothing_before period) is.entries ∙ broken_go_on files truth nothing_before period before answer.entries low)

pub report_behind : (root : List ℕ) (files : List Audited) (truth : Truth) (before log : List LogEntry) (answer : AnswerFile) (period : Period) (auths : List Authenticator)
    → IsBehind before log answer → AreBefore period before
    → report_of root files truth (state_after nothing_before before) answer period auths ≡ report_of root files truth nothing_before (whole log answer) period auths
report_behind root files truth before log answer period auths is low =
    let conflicts = conflicts_behind root before log answer period auths is low in
    let wrong = wrong_behind (numbers_of_all files) before log answer period is low in
    let broken = broken_behind (promise_files files) truth before log answer period is low in
    λ i. record { conflicts = conflicts i; wrong = wrong i; broken = broken i }

-- an outcome, by the chain's last value, the promises in force and the report
abbrev pub told_of : List ℕ → List Audited → ℕ → Authenticator → Period → List ℕ → List (List ℕ) → Report → Result Report Fact
told_of root files asn head period value digests report =
    refused_by (network_fact asn files)
    (holds_or (is_signed root head) Unsigned
    (holds_or (bytes_eq head.hash value) (Head head.hash value)
    (holds_or (not (nat_le head.time period.to)) (Short head.time period.to)
    (refused_by (promise_fact (numbers_of_all files) digests) (Ok report)))))

pub over_is : (root : List ℕ) (files : List Audited) (truth : Truth) (base : Base) (answer : AnswerFile) (period : Period) (auths : List Authenticator)
    → outcome_over root files truth base answer period auths
    ≡ told_of root files answer.asn answer.head period (answer_value answer) (digests_in_force base period answer.entries) (report_of root files truth base answer period auths)
unfolding outcome_over
over_is root files truth base answer period auths = refl

pub whole_is : (root : List ℕ) (files : List Audited) (truth : Truth) (log : List LogEntry) (answer : AnswerFile) (period : Period) (auths : List Authenticator)
    → outcome root files truth (whole log answer) period auths ≡ outcome_over root files truth nothing_before (whole log answer) period auths
unfolding outcome
whole_is root files truth log answer period auths = refl

pub outcome_behind : (root : List ℕ) (files : List Audited) (truth : Truth) (before log : List LogEntry) (answer : AnswerFile) (period : Period) (auths : List Authenticator)
    → IsBehind before log answer → AreBefore period before
    → outcome_over root files truth (state_after nothing_before before) answer period auths ≡ outcome root files truth (whole log answer) period auths
outcome_behind root files truth before log answer period auths is low =
    let value = sym (value_behind before log answer is) in
    let digests : digests_in_force (state_after nothing_before before) period answer.entries ≡ digests_in_force nothing_before period log =
    sym (ap (digests_in_force nothing_before period) is.entries ∙ force_goes_on nothing_before period before answer.entries low) in
    let report = report_behind root files truth before log answer period auths is low in
    over_is root files truth (state_after nothing_before before) answer period auths
    ∙ (λ i. told_of root files answer.asn answer.head period (value i) (digests i) (report i))
    ∙ sym (over_is root files truth nothing_before (whole log answer) period auths)
    ∙ sym (whole_is root files truth log answer period auths)
