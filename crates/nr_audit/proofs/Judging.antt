-- The outcome of a slice, by what was asked so far.
use Rattle.std.proofs.Common.{◌≡◌, ◌==◌, ◌<◌, ◌≤◌, ℕ, Bool, true, false, cond, not, List, [], ◌∷◌, Option, Some, None, refl, ap, sym, ◌∙◌, arith}
use Rattle.std.specs.Prelude.{Result, Ok, Err, filter, map, nat_le, option_map}
use Rattle.std.specs.Str.{bytes_eq}
use Rattle.std.proofs.lemmas.Bool.Decides.{nat_tests}
use Rattle.nr_spec_log.specs.Answer.{AnswerFile}
use Rattle.nr_spec_log.specs.Authenticator.{Authenticator}
use Rattle.nr_spec_history.specs.Conflicts.{Period, answer_value, conflicts_of, is_signed}
use Rattle.nr_spec_truth.specs.Truths.{Truth}
use Rattle.nr_spec_report.specs.Wrong.{Base, WrongEntry, nothing_before, wrong_entries}
use Rattle.nr_spec_runs.specs.Runs.{Run}
use Rattle.nr_spec_promises.specs.Found.{broken_runs}
use Rattle.nr_spec_outcome.specs.Report.{Report}
use Rattle.nr_spec_outcome.specs.Outcome.{Audited, Fact, Form, Head, Network, Promise, Short, Unsigned, digests_in_force, file_of_other, first_digest, holds_or, misfit, network_fact, numbers_of_all, outcome, outcome_over, promise_fact, promise_files, refused_by, report_of}
use Rattle.nr_audit.specs.Views.{marked}

-- ---- what is asked from each question on

abbrev pub at_promise : List ℕ → List Audited → Truth → Base → AnswerFile → Period → List Authenticator → Result Report Fact
at_promise root files truth base answer period auths =
    refused_by (promise_fact (numbers_of_all files) (digests_in_force base period answer.entries)) (Ok (report_of root files truth base answer period auths))

abbrev pub at_short : List ℕ → List Audited → Truth → Base → AnswerFile → Period → List Authenticator → Result Report Fact
at_short root files truth base answer period auths = holds_or (not (nat_le answer.head.time period.to)) (Short answer.head.time period.to) (at_promise root files truth base answer period auths)

abbrev pub at_head : List ℕ → List Audited → Truth → Base → AnswerFile → Period → List Authenticator → Result Report Fact
at_head root files truth base answer period auths = holds_or (bytes_eq answer.head.hash (answer_value answer)) (Head answer.head.hash (answer_value answer)) (at_short root files truth base answer period auths)

abbrev pub at_signed : List ℕ → List Audited → Truth → Base → AnswerFile → Period → List Authenticator → Result Report Fact
at_signed root files truth base answer period auths = holds_or (is_signed root answer.head) Unsigned (at_head root files truth base answer period auths)

at_network : (root : List ℕ) (files : List Audited) (truth : Truth) (base : Base) (answer : AnswerFile) (period : Period) (auths : List Authenticator)
    → outcome_over root files truth base answer period auths ≡ refused_by (network_fact answer.asn files) (at_signed root files truth base answer period auths)
unfolding outcome_over
at_network root files truth base answer period auths = refl

-- a whole log is judged over nothing
pub whole_log : (root : List ℕ) (files : List Audited) (truth : Truth) (answer : AnswerFile) (period : Period) (auths : List Authenticator) → answer.first ≡ 1
    → outcome_over root files truth nothing_before answer period auths ≡ outcome root files truth answer period auths
unfolding outcome
whole_log root files truth answer period auths first =
    sym (ap (λ (n : ℕ). holds_or (n == 1) Form (outcome_over root files truth nothing_before answer period auths)) first)

-- ---- each question

abbrev fact_of : ℕ → Option Audited → Option Fact
fact_of asn found = option_map (λ (a : Audited). Network asn a.network) found

pub network_refuses : (root : List ℕ) (files : List Audited) (truth : Truth) (base : Base) (answer : AnswerFile) (period : Period) (auths : List Authenticator) (asn told : ℕ) (other : Audited)
    → asn ≡ answer.asn → told ≡ answer.asn → Some other ≡ file_of_other asn files
    → outcome_over root files truth base answer period auths ≡ Err (Network told other.network)
network_refuses root files truth base answer period auths asn told other same told_same is =
    at_network root files truth base answer period auths
    ∙ ((λ i. refused_by (fact_of answer.asn (sym (is ∙ ap (λ (n : ℕ). file_of_other n files) same) i)) (at_signed root files truth base answer period auths))
    ∙ (λ i. Err (Network (sym told_same i) other.network)))

pub network_passes : (root : List ℕ) (files : List Audited) (truth : Truth) (base : Base) (answer : AnswerFile) (period : Period) (auths : List Authenticator) (asn : ℕ)
    → asn ≡ answer.asn → None ≡ file_of_other asn files
    → outcome_over root files truth base answer period auths ≡ at_signed root files truth base answer period auths
network_passes root files truth base answer period auths asn same is =
    at_network root files truth base answer period auths
    ∙ (λ i. refused_by (fact_of answer.asn (sym (is ∙ ap (λ (n : ℕ). file_of_other n files) same) i)) (at_signed root files truth base answer period auths))

pub signed_refuses : (root : List ℕ) (files : List Audited) (truth : Truth) (base : Base) (answer : AnswerFile) (period : Period) (auths : List Authenticator) (head : Authenticator) (signed : Bool)
    → outcome_over root files truth base answer period auths ≡ at_signed root files truth base answer period auths
    → head ≡ answer.head → signed ≡ is_signed root head → signed ≡ false
    → outcome_over root files truth base answer period auths ≡ Err Unsigned
signed_refuses root files truth base answer period auths head signed asked same is not_so =
    asked ∙ (λ i. holds_or ((ap (is_signed root) (sym same) ∙ (sym is ∙ not_so)) i) Unsigned (at_head root files truth base answer period auths))

pub signed_passes : (root : List ℕ) (files : List Audited) (truth : Truth) (base : Base) (answer : AnswerFile) (period : Period) (auths : List Authenticator) (head : Authenticator) (signed : Bool)
    → outcome_over root files truth base answer period auths ≡ at_signed root files truth base answer period auths
    → head ≡ answer.head → signed ≡ is_signed root head → signed ≡ true
    → outcome_over root files truth base answer period auths ≡ at_head root files truth base answer period auths
signed_passes root files truth base answer period auths head signed asked same is so =
    asked ∙ (λ i. holds_or ((ap (is_signed root) (sym same) ∙ (sym is ∙ so)) i) Unsigned (at_head root files truth base answer period auths))

not_true : (b : Bool) → not b ≡ true → b ≡ false
not_true true is = sym is
not_true false is = refl

not_false : (b : Bool) → not b ≡ false → b ≡ true
not_false true is = refl
not_false false is = sym is

pub other_bytes : (a b s t : List ℕ) (ne : Bool) → s ≡ a → t ≡ b → ne ≡ not (bytes_eq s t) → ne ≡ true → bytes_eq a b ≡ false
other_bytes a b s t ne left right is so = (λ i. bytes_eq (sym left i) (sym right i)) ∙ not_true (bytes_eq s t) (sym is ∙ so)

pub same_bytes : (a b s t : List ℕ) (ne : Bool) → s ≡ a → t ≡ b → ne ≡ not (bytes_eq s t) → ne ≡ false → bytes_eq a b ≡ true
same_bytes a b s t ne left right is so = (λ i. bytes_eq (sym left i) (sym right i)) ∙ not_false (bytes_eq s t) (sym is ∙ so)

pub head_refuses : (root : List ℕ) (files : List Audited) (truth : Truth) (base : Base) (answer : AnswerFile) (period : Period) (auths : List Authenticator) (head : Authenticator) (value : List ℕ)
    → outcome_over root files truth base answer period auths ≡ at_head root files truth base answer period auths
    → head ≡ answer.head → value ≡ answer_value answer → bytes_eq head.hash value ≡ false
    → outcome_over root files truth base answer period auths ≡ Err (Head head.hash value)
head_refuses root files truth base answer period auths head value asked same last other =
    asked
    ∙ ((λ i. holds_or (bytes_eq (sym same i).hash (sym last i)) (Head (sym same i).hash (sym last i)) (at_short root files truth base answer period auths))
    ∙ (λ i. holds_or (other i) (Head head.hash value) (at_short root files truth base answer period auths)))

pub head_passes : (root : List ℕ) (files : List Audited) (truth : Truth) (base : Base) (answer : AnswerFile) (period : Period) (auths : List Authenticator) (head : Authenticator) (value : List ℕ)
    → outcome_over root files truth base answer period auths ≡ at_head root files truth base answer period auths
    → head ≡ answer.head → value ≡ answer_value answer → bytes_eq head.hash value ≡ true
    → outcome_over root files truth base answer period auths ≡ at_short root files truth base answer period auths
head_passes root files truth base answer period auths head value asked same last so =
    asked
    ∙ ((λ i. holds_or (bytes_eq (sym same i).hash (sym last i)) (Head (sym same i).hash (sym last i)) (at_short root files truth base answer period auths))
    ∙ (λ i. holds_or (so i) (Head head.hash value) (at_short root files truth base answer period auths)))

within_test : (a b : ℕ) → a ≤ b → not (nat_le a b) ≡ false
within_test a b within = grind (arith, nat_tests)

above_test : (a b : ℕ) → b < a → not (nat_le a b) ≡ true
above_test a b above = grind (arith, nat_tests)

pub short_refuses : (root : List ℕ) (files : List Audited) (truth : Truth) (base : Base) (answer : AnswerFile) (period : Period) (auths : List Authenticator) (head : Authenticator)
    → outcome_over root files truth base answer period auths ≡ at_short root files truth base answer period auths
    → head ≡ answer.head → head.time ≤ period.to
    → outcome_over root files truth base answer period auths ≡ Err (Short head.time period.to)
short_refuses root files truth base answer period auths head asked same within =
    asked
    ∙ ((λ i. holds_or (not (nat_le (sym same i).time period.to)) (Short (sym same i).time period.to) (at_promise root files truth base answer period auths))
    ∙ (λ i. holds_or (within_test head.time period.to within i) (Short head.time period.to) (at_promise root files truth base answer period auths)))

pub short_passes : (root : List ℕ) (files : List Audited) (truth : Truth) (base : Base) (answer : AnswerFile) (period : Period) (auths : List Authenticator) (head : Authenticator)
    → outcome_over root files truth base answer period auths ≡ at_short root files truth base answer period auths
    → head ≡ answer.head → period.to < head.time
    → outcome_over root files truth base answer period auths ≡ at_promise root files truth base answer period auths
short_passes root files truth base answer period auths head asked same above =
    asked
    ∙ ((λ i. holds_or (not (nat_le (sym same i).time period.to)) (Short (sym same i).time period.to) (at_promise root files truth base answer period auths))
    ∙ (λ i. holds_or (above_test head.time period.to above i) (Short head.time period.to) (at_promise root files truth base answer period auths)))

abbrev promise_of : List ℕ → Option (Option (List ℕ)) → Option Fact
promise_of first found = option_map (λ (d : Option (List ℕ)). Promise d first) found

pub promise_refuses : (root : List ℕ) (files : List Audited) (truth : Truth) (base : Base) (answer : AnswerFile) (period : Period) (auths : List Authenticator) (found : Option (List ℕ)) (first : List ℕ)
    → outcome_over root files truth base answer period auths ≡ at_promise root files truth base answer period auths
    → Some found ≡ misfit (numbers_of_all files) (digests_in_force base period answer.entries) → first ≡ first_digest (numbers_of_all files)
    → outcome_over root files truth base answer period auths ≡ Err (Promise found first)
promise_refuses root files truth base answer period auths found first asked is first_is =
    asked ∙ (λ i. refused_by (promise_of (sym first_is i) (sym is i)) (Ok (report_of root files truth base answer period auths)))

pub promise_passes : (root : List ℕ) (files : List Audited) (truth : Truth) (base : Base) (answer : AnswerFile) (period : Period) (auths : List Authenticator) (conflicts : List Authenticator) (wrong : List WrongEntry) (broken : List Run)
    → outcome_over root files truth base answer period auths ≡ at_promise root files truth base answer period auths
    → None ≡ misfit (numbers_of_all files) (digests_in_force base period answer.entries)
    → conflicts ≡ conflicts_of root answer period auths
    → wrong ≡ wrong_entries (numbers_of_all files) base period answer.first answer.entries
    → broken ≡ broken_runs (promise_files files) truth base period answer.entries
    → outcome_over root files truth base answer period auths ≡ Ok (record { conflicts = conflicts; wrong = wrong; broken = broken })
promise_passes root files truth base answer period auths conflicts wrong broken asked is conflicts_is wrong_is broken_is =
    asked
    ∙ ((λ i. refused_by (promise_of (first_digest (numbers_of_all files)) (sym is i)) (Ok (report_of root files truth base answer period auths)))
    ∙ (λ i. Ok (record { conflicts = sym conflicts_is i; wrong = sym wrong_is i; broken = sym broken_is i })))

-- those that are marked are those that pass
pub marked_by : (f : Authenticator → Bool) (auths : List Authenticator) → marked auths (map f auths) ≡ filter f auths
marked_by f [] = refl
marked_by f (a ∷ auths) = by (f a) (marked_by f auths)
  where
    by : (b : Bool) → marked auths (map f auths) ≡ filter f auths → cond b (a ∷ marked auths (map f auths)) (marked auths (map f auths)) ≡ cond b (a ∷ filter f auths) (filter f auths)
    by true ih = ap (λ l. a ∷ l) ih
    by false ih = ih
