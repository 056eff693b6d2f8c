-- The audit of a true answer is that of the whole log, but for a late checkpoint.
use Rattle.std.proofs.Common.{◌≡◌, ℕ, zero, suc, ◌==◌, Bool, true, false, not, List, Option, Some, None, Result, Ok, Err, refl, sym, ap, ◌∙◌}
use Rattle.std.specs.Prelude.{nat_le, option_map}
use Rattle.std.specs.Str.{bytes_eq}
use Rattle.nr_spec_log.specs.Chain.{LogEntry}
use Rattle.nr_spec_log.specs.Authenticator.{Authenticator}
use Rattle.nr_spec_log.specs.Answer.{AnswerFile, IsAnswer, StartsAt}
use Rattle.nr_spec_history.specs.Conflicts.{Period, answer_value, is_signed}
use Rattle.nr_spec_counts.specs.Tallies.{Numbers}
use Rattle.nr_spec_report.specs.Wrong.{nothing_before}
use Rattle.nr_spec_truth.specs.Truths.{Truth}
use Rattle.nr_spec_outcome.specs.Report.{Report}
use Rattle.nr_spec_outcome.specs.Outcome.{Audited, Fact, Form, Head, Network, Promise, Short, Unsigned, digests_in_force, first_digest, holds_or, misfit, network_fact, numbers_of_all, outcome, outcome_over, promise_fact, refused_by, report_of}
use Rattle.nr_spec_bodies.specs.Bases.{state_after}
use Rattle.nr_spec_slices.specs.Slices.{IsLog, IsTrue, whole}
use Rattle.nr_spec_slices.specs.Late.{Late, late_fact, late_of}
use Rattle.nr_spec_slices.specs.Audits.{Checkpoint, Refusal, base_by, outcome_by, outcome_of, with_late}
use Rattle.nr_laws_checkpoint.proofs.Reports.{over_is, told_of, value_behind, whole_is}
use Rattle.nr_laws_checkpoint.proofs.Audited.{true_outcome}
use Rattle.nr_laws_true_answers.proofs.Bases.{true_base_by}

abbrev late_told : Late → Result Report Refusal
late_told late = Err (Checkpoint late)

-- a late checkpoint is told before the promises in force, whichever they are
late_alone : (late : Late) (files : List Numbers) (digests : List (List ℕ)) (report : Report)
    → with_late (Some late) (refused_by (promise_fact files digests) (Ok report)) ≡ late_told late
late_alone late files digests report = by (misfit files digests)
  where
    by : (found : Option (Option (List ℕ))) → with_late (Some late) (refused_by (option_map (λ x. Promise x (first_digest files)) found) (Ok report)) ≡ late_told late
    by None = refl
    by (Some found) = refl

by_test : (late : Late) (test : Bool) (fact : Fact) (x y : Result Report Fact) → with_late (Some late) x ≡ with_late (Some late) y
    → with_late (Some late) (holds_or test fact x) ≡ with_late (Some late) (holds_or test fact y)
by_test late true fact x y same = same
by_test late false fact x y same = refl

by_fact : (late : Late) (fact : Option Fact) (x y : Result Report Fact) → with_late (Some late) x ≡ with_late (Some late) y
    → with_late (Some late) (refused_by fact x) ≡ with_late (Some late) (refused_by fact y)
by_fact late None x y same = same
by_fact late (Some fact) x y same = refl

-- so neither the promises in force nor the report make a difference then
late_same : (late : Late) (root : List ℕ) (files : List Audited) (asn : ℕ) (head : Authenticator) (period : Period) (value : List ℕ) (digests others : List (List ℕ)) (report other : Report)
    → with_late (Some late) (told_of root files asn head period value digests report) ≡ with_late (Some late) (told_of root files asn head period value others other)
late_same late root files asn head period value digests others report other =
    by_fact late (network_fact asn files) _ _
    (by_test late (is_signed root head) Unsigned _ _
    (by_test late (bytes_eq head.hash value) (Head head.hash value) _ _
    (by_test late (not (nat_le head.time period.to)) (Short head.time period.to) _ _
    (late_alone late (numbers_of_all files) digests report ∙ sym (late_alone late (numbers_of_all files) others other)))))

true_over : (root : List ℕ) (files : List Audited) (truth : Truth) (log : List LogEntry) (answer : AnswerFile) (period : Period) (auths : List Authenticator) (late : Option Late)
    → IsLog log → (t : IsTrue log answer) → IsAnswer answer → late_fact answer period ≡ late
    → with_late late (outcome_over root files truth (state_after nothing_before t.before) answer period auths) ≡ with_late late (outcome root files truth (whole log answer) period auths)
true_over root files truth log answer period auths None log_is t a is =
    ap (with_late None) (true_outcome root files truth log answer period auths log_is t a is)
true_over root files truth log answer period auths (Some late) log_is t a is =
    let base = state_after nothing_before t.before in
    let value = sym (value_behind t.before log answer t.behind) in
    let digests = digests_in_force base period answer.entries in
    let report = report_of root files truth base answer period auths in
    ap (with_late (Some late)) (over_is root files truth base answer period auths
    ∙ ap (λ (v : List ℕ). told_of root files answer.asn answer.head period v digests report) value)
    ∙ late_same late root files answer.asn answer.head period (answer_value (whole log answer)) digests (digests_in_force nothing_before period log) report (report_of root files truth nothing_before (whole log answer) period auths)
    ∙ ap (with_late (Some late)) (sym (over_is root files truth nothing_before (whole log answer) period auths)
    ∙ sym (whole_is root files truth log answer period auths))

outcome_is : (root : List ℕ) (files : List Audited) (truth : Truth) (answer : AnswerFile) (period : Period) (auths : List Authenticator)
    → outcome_of root files truth answer period auths ≡ outcome_by root files truth answer period auths (base_by answer.body answer.entries)
unfolding outcome_of
outcome_is root files truth answer period auths = refl

pub true_given : (root : List ℕ) (files : List Audited) (truth : Truth) (log : List LogEntry) (answer : AnswerFile) (period : Period) (auths : List Authenticator)
    → IsLog log → IsTrue log answer → IsAnswer answer
    → outcome_of root files truth answer period auths ≡ with_late (late_fact answer period) (outcome root files truth (whole log answer) period auths)
true_given root files truth log answer period auths log_is t a =
    outcome_is root files truth answer period auths
    ∙ ap (outcome_by root files truth answer period auths) (true_base_by log answer log_is t a)
    ∙ true_over root files truth log answer period auths (late_fact answer period) log_is t a refl

-- what isn't refused is what was given
pub not_refused : (late : Option Late) (given : Result Report Fact) (report : Report) → with_late late given ≡ Ok report → given ≡ Ok report
not_refused None (Ok other) report is = ap (λ (r : Report). Ok r) (report_is other report is)
  where
    report_is : (x y : Report) → (let r : Result Report Refusal = Ok x in r) ≡ Ok y → x ≡ y
    report_is x y e = cc
not_refused None (Err fact) report is = absurd cc
not_refused (Some late) (Ok other) report is = absurd cc
not_refused (Some late) (Err fact) report is = absurd (late_refuses late fact report is)
  where
    late_refuses : (late : Late) (fact : Fact) (report : Report) → with_late (Some late) (Err fact) ≡ Ok report → ⊥
    late_refuses late Form report is = absurd cc
    late_refuses late (Network found wanted) report is = absurd cc
    late_refuses late Unsigned report is = absurd cc
    late_refuses late (Head head chain) report is = absurd cc
    late_refuses late (Short head to) report is = absurd cc
    late_refuses late (Promise found file) report is = absurd cc

pub true_report : (root : List ℕ) (files : List Audited) (truth : Truth) (log : List LogEntry) (answer : AnswerFile) (period : Period) (auths : List Authenticator) (report : Report)
    → IsLog log → IsTrue log answer → IsAnswer answer → outcome_of root files truth answer period auths ≡ Ok report
    → outcome root files truth (whole log answer) period auths ≡ Ok report
true_report root files truth log answer period auths report log_is t a is =
    not_refused (late_fact answer period) (outcome root files truth (whole log answer) period auths) report
    (sym (true_given root files truth log answer period auths log_is t a) ∙ is)

-- ---- whole answers

-- an answer without a body starts with entry 1
first_is : (answer : AnswerFile) (first : ℕ) → StartsAt first answer → answer.body ≡ None → (first == 1) ≡ true
first_is answer zero starts none = absurd starts
first_is answer (suc zero) starts none = refl
first_is answer (suc (suc n)) starts none = absurd (let no = sym none ∙ starts.1 in cc)

outcome_whole : (root : List ℕ) (files : List Audited) (truth : Truth) (answer : AnswerFile) (period : Period) (auths : List Authenticator)
    → (answer.first == 1) ≡ true → outcome root files truth answer period auths ≡ outcome_over root files truth nothing_before answer period auths
unfolding outcome
outcome_whole root files truth answer period auths one =
    ap (λ b. holds_or b Form (outcome_over root files truth nothing_before answer period auths)) one

pub whole_given : (root : List ℕ) (files : List Audited) (truth : Truth) (answer : AnswerFile) (period : Period) (auths : List Authenticator)
    → IsAnswer answer → answer.body ≡ None
    → outcome_of root files truth answer period auths ≡ with_late None (outcome root files truth answer period auths)
whole_given root files truth answer period auths a none =
    outcome_is root files truth answer period auths
    ∙ ap (λ (b : Option (List ℕ)). outcome_by root files truth answer period auths (base_by b answer.entries)) none
    ∙ ap (λ (b : Option (List ℕ)). with_late (late_of period b answer.entries) (outcome_over root files truth nothing_before answer period auths)) none
    ∙ ap (with_late None) (sym (outcome_whole root files truth answer period auths (first_is answer answer.first a.start none)))
