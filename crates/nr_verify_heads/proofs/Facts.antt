-- The facts for which an answer is refused, one after another.
use Rattle.std.proofs.Common.{◌≡◌, ◌==◌, ℕ, Bool, true, false, not, List, [], ◌∷◌, Option, Some, None, refl, ap, ◌∙◌}
use Rattle.std.specs.Result.{result_err}
use Rattle.std.specs.Prelude.{Result, nat_le}
use Rattle.std.specs.Str.{bytes_eq}
use Rattle.nr_spec_log.specs.Answer.{AnswerFile}
use Rattle.nr_spec_routes.specs.LookBack.{later_or}
use Rattle.nr_spec_routes.proofs.Words.{later_or-none}
use Rattle.nr_spec_history.specs.Conflicts.{Period, answer_value, is_signed}
use Rattle.nr_spec_truth.specs.Truths.{Truth}
use Rattle.nr_spec_report.specs.Wrong.{nothing_before}
use Rattle.nr_spec_outcome.specs.Outcome.{Fact, Form, Head, Short, Unsigned, digests_in_force, holds_or, network_fact, numbers_of_all, outcome, outcome_over, promise_fact, refused_by}
use Rattle.nr_verify_runs.specs.declared.file.Text.{Text}
use Rattle.nr_verify_heads.specs.Refused.{refusal_of, unless}
use Rattle.nr_verify_heads.specs.Views.{audited_in, numbers_in, numbers_of}

held : {A : Type 0} (test : Bool) (fact : Fact) (next : Result A Fact) → result_err (holds_or test fact next) ≡ later_or (unless test fact) (result_err next)
held true fact next = refl
held false fact next = refl

by_fact : {A : Type 0} (fact : Option Fact) (next : Result A Fact) → result_err (refused_by fact next) ≡ later_or fact (result_err next)
by_fact None next = refl
by_fact (Some fact) next = refl

none_later : (o : Option Fact) → later_or o None ≡ o
none_later None = refl
none_later (Some fact) = refl

numbers_are : (texts : List Text) → numbers_of_all (audited_in texts) ≡ numbers_in texts
numbers_are [] = refl
numbers_are (t ∷ texts) = ap (λ all. numbers_of t ∷ all) (numbers_are texts)

-- ---- what is asked from each question on

abbrev promise_asked : List Text → AnswerFile → Period → Option Fact
promise_asked texts answer period = promise_fact (numbers_in texts) (digests_in_force nothing_before period answer.entries)

abbrev time_asked : List Text → AnswerFile → Period → Option Fact
time_asked texts answer period = later_or (unless (not (nat_le answer.head.time period.to)) (Short answer.head.time period.to)) (promise_asked texts answer period)

abbrev value_asked : List Text → AnswerFile → Period → Option Fact
value_asked texts answer period = later_or (unless (bytes_eq answer.head.hash (answer_value answer)) (Head answer.head.hash (answer_value answer))) (time_asked texts answer period)

abbrev signature_asked : List ℕ → List Text → AnswerFile → Period → Option Fact
signature_asked root texts answer period = later_or (unless (is_signed root answer.head) Unsigned) (value_asked texts answer period)

abbrev network_asked : List ℕ → List Text → AnswerFile → Period → Option Fact
network_asked root texts answer period = later_or (network_fact answer.asn (audited_in texts)) (signature_asked root texts answer period)

abbrev all_asked : List ℕ → List Text → AnswerFile → Period → Option Fact
all_asked root texts answer period = later_or (unless (answer.first == 1) Form) (network_asked root texts answer period)

pub refusal_is : (root : List ℕ) (texts : List Text) (truth : Truth) (answer : AnswerFile) (period : Period) → refusal_of root (audited_in texts) truth answer period ≡ all_asked root texts answer period
unfolding outcome outcome_over
refusal_is root texts truth answer period =
    let start = unless (answer.first == 1) Form in
    let network = network_fact answer.asn (audited_in texts) in
    let signature = unless (is_signed root answer.head) Unsigned in
    let value = unless (bytes_eq answer.head.hash (answer_value answer)) (Head answer.head.hash (answer_value answer)) in
    let time = unless (not (nat_le answer.head.time period.to)) (Short answer.head.time period.to) in
    let digests = digests_in_force nothing_before period answer.entries in
    held (answer.first == 1) Form _
    ∙ ap (later_or start) (by_fact network _
    ∙ ap (later_or network) (held (is_signed root answer.head) Unsigned _
    ∙ ap (later_or signature) (held (bytes_eq answer.head.hash (answer_value answer)) (Head answer.head.hash (answer_value answer)) _
    ∙ ap (later_or value) (held (not (nat_le answer.head.time period.to)) (Short answer.head.time period.to) _
    ∙ ap (later_or time) (by_fact (promise_fact (numbers_of_all (audited_in texts)) digests) _
    ∙ (later_or-none (promise_fact (numbers_of_all (audited_in texts)) digests) ∙ ap (λ all. promise_fact all digests) (numbers_are texts)))))))
