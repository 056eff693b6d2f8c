-- Where an audit gives a report, it is that of its definition, and an audit with other authenticators gives one too.
use Rattle.std.proofs.Common.{◌≡◌, ℕ, Bool, true, false, not, nat_le, ◌==◌, bytes_eq, List, Option, Some, None, Result, Ok, refl, ◌∙◌}
use Rattle.nr_spec_log.specs.Authenticator.{Authenticator}
use Rattle.nr_spec_log.specs.Answer.{AnswerFile}
use Rattle.nr_spec_history.specs.Conflicts.{Period, answer_value, is_signed}
use Rattle.nr_spec_truth.specs.Truths.{Truth}
use Rattle.nr_spec_report.specs.Wrong.{nothing_before}
use Rattle.nr_spec_outcome.specs.Report.{Report}
use Rattle.nr_spec_outcome.specs.Outcome.{Audited, Fact, Form, Head, Short, Unsigned, digests_in_force, holds_or, network_fact, numbers_of_all, outcome, outcome_over, promise_fact, refused_by, report_of}

-- The facts ask for no authenticator.
past_fact : (fact : Option Fact) (x y : Result Report Fact) (r : Report) → refused_by fact x ≡ Ok r → (x ≡ Ok r) × (refused_by fact y ≡ y)
past_fact (Some f) x y r e = absurd cc
past_fact None x y r e = (e, refl)

past_test : (test : Bool) (fact : Fact) (x y : Result Report Fact) (r : Report) → holds_or test fact x ≡ Ok r → (x ≡ Ok r) × (holds_or test fact y ≡ y)
past_test true fact x y r e = (e, refl)
past_test false fact x y r e = absurd cc

abbrev good : Report → Result Report Fact
good r = Ok r

ok_is : (x r : Report) → good x ≡ good r → x ≡ r
ok_is x r e = cc

module _ (root : List ℕ) (files : List Audited) (truth : Truth) (answer : AnswerFile) (period : Period) where
  abbrev last : List Authenticator → Result Report Fact
  last auths = Ok (report_of root files truth nothing_before answer period auths)

  abbrev in_force : List Authenticator → Result Report Fact
  in_force auths = refused_by (promise_fact (numbers_of_all files) (digests_in_force nothing_before period answer.entries)) (last auths)

  abbrev long : List Authenticator → Result Report Fact
  long auths = holds_or (not (nat_le answer.head.time period.to)) (Short answer.head.time period.to) (in_force auths)

  abbrev chained : List Authenticator → Result Report Fact
  chained auths = holds_or (bytes_eq answer.head.hash (answer_value answer)) (Head answer.head.hash (answer_value answer)) (long auths)

  abbrev signed : List Authenticator → Result Report Fact
  signed auths = holds_or (is_signed root answer.head) Unsigned (chained auths)

  abbrev ours : List Authenticator → Result Report Fact
  ours auths = refused_by (network_fact answer.asn files) (signed auths)

  pub given : (auths others : List Authenticator) (r : Report) → outcome root files truth answer period auths ≡ Ok r
      → (report_of root files truth nothing_before answer period auths ≡ r)
      × (outcome root files truth answer period others ≡ Ok (report_of root files truth nothing_before answer period others))
  unfolding outcome outcome_over
  given auths others r e =
      let s1 = past_test (answer.first == 1) Form (ours auths) (ours others) r e in
      let s2 = past_fact (network_fact answer.asn files) (signed auths) (signed others) r s1.0 in
      let s3 = past_test (is_signed root answer.head) Unsigned (chained auths) (chained others) r s2.0 in
      let s4 = past_test (bytes_eq answer.head.hash (answer_value answer)) (Head answer.head.hash (answer_value answer)) (long auths) (long others) r s3.0 in
      let s5 = past_test (not (nat_le answer.head.time period.to)) (Short answer.head.time period.to) (in_force auths) (in_force others) r s4.0 in
      let s6 = past_fact (promise_fact (numbers_of_all files) (digests_in_force nothing_before period answer.entries)) (last auths) (last others) r s5.0 in
      (ok_is _ r s6.0, s1.1 ∙ (s2.1 ∙ (s3.1 ∙ (s4.1 ∙ (s5.1 ∙ s6.1)))))
