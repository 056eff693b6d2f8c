-- Claims and reports.
use Rattle.std.proofs.Common.{ap}
use Rattle.nr_laws_claims.proofs.Members.{passed}
use Rattle.std.proofs.Common.{inl, inr, refl, ◌∙◌}
use Rattle.nr_laws_claims.proofs.Members.{one_mapped}
use Rattle.nr_laws_claims.proofs.WrongOnes.{wrong_listed}
use Rattle.nr_spec_claims.specs.Claims.{judged}
use Rattle.nr_spec_history.specs.Conflicts.{answer_links, is_conflict}
use Rattle.nr_spec_outcome.specs.Outcome.{numbers_of_all, outcome, outcome_over, report_of}
use Rattle.nr_spec_report.specs.Wrong.{nothing_before}
use Rattle.nr_laws_claims.proofs.BrokenOnes.{broken_listed, listed_broken}
use Rattle.nr_laws_claims.proofs.Members.{filtered, from_mapped, one_left, one_of_both, one_right}
use Rattle.nr_laws_claims.proofs.WrongOnes.{listed_wrong}
use Rattle.nr_laws_claims.specs.Alone.{alone}
use Rattle.nr_laws_promises.specs.BrokenRows.{IsOneOf}
use Rattle.nr_spec_outcome.specs.Outcome.{Form, Head}
use Rattle.nr_spec_claims.specs.Claims.{in_place, is_true_claim, span_of}
use Rattle.nr_spec_history.specs.Conflicts.{Period, answer_value, is_signed}
use Rattle.nr_spec_log.specs.Answer.{AnswerFile}
use Rattle.nr_spec_log.specs.Authenticator.{Authenticator}
use Rattle.nr_spec_outcome.specs.Outcome.{Audited, Fact, Short, Unsigned, digests_in_force, holds_or, network_fact, promise_fact, promise_files, refused_by}
use Rattle.nr_spec_outcome.specs.Report.{Report, broken_claim, claims_of, wrong_claim}
use Rattle.nr_spec_report.specs.Claims.{Broken, Claim, Conflict, Wrong}
use Rattle.nr_spec_report.specs.Wrong.{Base, WrongEntry}
use Rattle.nr_spec_runs.specs.Runs.{Run}
use Rattle.nr_spec_truth.specs.Truths.{Truth}
use Rattle.nr_spec_runs.specs.Runs.{key_of}
use Rattle.std.proofs.Common.{Bool, List, None, Ok, Option, Result, Some, [], bytes_eq, false, filter, map, nat_le, not, subst, sym, true, ℕ, ◌++◌, ◌==◌, ◌∷◌, ◌≡◌, ◌⊎◌}

-- ---- no claim is of two sorts

is_conflict_claim : Claim → Bool
is_conflict_claim (Conflict auth) = true
is_conflict_claim (Wrong seq cause) = false
is_conflict_claim (Broken file promise prefix begin end) = false

is_wrong_claim : Claim → Bool
is_wrong_claim (Conflict auth) = false
is_wrong_claim (Wrong seq cause) = true
is_wrong_claim (Broken file promise prefix begin end) = false

auth_or : Authenticator → Claim → Authenticator
auth_or other (Conflict auth) = auth
auth_or other (Wrong seq cause) = other
auth_or other (Broken file promise prefix begin end) = other

clash : {A : Type 0} (b : Bool) → b ≡ true → b ≡ false → A
clash true h e = absurd cc
clash false h e = absurd cc

no_conflict : {A : Type 0} (c : Claim) (auths : List Authenticator) → is_conflict_claim c ≡ false → IsOneOf c (map Conflict auths) → A
unfolding is_conflict_claim
no_conflict c [] other h = absurd h
no_conflict c (a ∷ auths) other (inl e) = clash (is_conflict_claim c) (ap is_conflict_claim e) other
no_conflict c (a ∷ auths) other (inr h) = no_conflict c auths other h

no_wrong : {A : Type 0} (c : Claim) (ws : List WrongEntry) → is_wrong_claim c ≡ false → IsOneOf c (map wrong_claim ws) → A
unfolding is_wrong_claim
no_wrong c [] other h = absurd h
no_wrong c (w ∷ ws) other (inl e) = clash (is_wrong_claim c) (ap is_wrong_claim e) other
no_wrong c (w ∷ ws) other (inr h) = no_wrong c ws other h

is_broken_claim : Claim → Bool
is_broken_claim (Conflict auth) = false
is_broken_claim (Wrong seq cause) = false
is_broken_claim (Broken file promise prefix begin end) = true

no_broken : {A : Type 0} (c : Claim) (rs : List Run) → is_broken_claim c ≡ false → IsOneOf c (map broken_claim rs) → A
unfolding is_broken_claim
no_broken c [] other h = absurd h
no_broken c (r ∷ rs) other (inl e) = clash (is_broken_claim c) (ap is_broken_claim e) other
no_broken c (r ∷ rs) other (inr h) = no_broken c rs other h

-- ---- the three parts

abbrev Parts : Claim → Report → Type 0
Parts c r = IsOneOf c (map Conflict r.conflicts) ⊎ (IsOneOf c (map wrong_claim r.wrong) ⊎ IsOneOf c (map broken_claim r.broken))

of_parts : (c : Claim) (r : Report) → IsOneOf c (claims_of r) → Parts c r
of_parts c r h = by (one_of_both c (map Conflict r.conflicts ++ map wrong_claim r.wrong) (map broken_claim r.broken) h)
  where
    front : IsOneOf c (map Conflict r.conflicts) ⊎ IsOneOf c (map wrong_claim r.wrong) → Parts c r
    front (inl k) = inl k
    front (inr k) = inr (inl k)

    by : IsOneOf c (map Conflict r.conflicts ++ map wrong_claim r.wrong) ⊎ IsOneOf c (map broken_claim r.broken) → Parts c r
    by (inl k) = front (one_of_both c (map Conflict r.conflicts) (map wrong_claim r.wrong) k)
    by (inr k) = inr (inr k)

in_conflicts : (c : Claim) (r : Report) → IsOneOf c (map Conflict r.conflicts) → IsOneOf c (claims_of r)
in_conflicts c r h =
    one_left c (map Conflict r.conflicts ++ map wrong_claim r.wrong) (map broken_claim r.broken) (one_left c (map Conflict r.conflicts) (map wrong_claim r.wrong) h)

in_wrong : (c : Claim) (r : Report) → IsOneOf c (map wrong_claim r.wrong) → IsOneOf c (claims_of r)
in_wrong c r h =
    one_left c (map Conflict r.conflicts ++ map wrong_claim r.wrong) (map broken_claim r.broken) (one_right c (map Conflict r.conflicts) (map wrong_claim r.wrong) h)

in_broken : (c : Claim) (r : Report) → IsOneOf c (map broken_claim r.broken) → IsOneOf c (claims_of r)
in_broken c r h = one_right c (map Conflict r.conflicts ++ map wrong_claim r.wrong) (map broken_claim r.broken) h

-- ---- a claim of a report is true

module _ (root : List ℕ) (files : List Audited) (truth : Truth) (base : Base) (answer : AnswerFile) (period : Period) where
  abbrev report : List Authenticator → Report
  report auths = report_of root files truth base answer period auths

  abbrev is_true : Claim → Bool
  is_true claim = is_true_claim root files truth base answer period claim

  abbrev conflicts : List Authenticator → List Authenticator
  conflicts auths = filter (is_conflict root answer.asn period (answer_links answer)) auths

  conflict_true : (auth : Authenticator) (auths : List Authenticator) → IsOneOf (Conflict auth) (map Conflict (conflicts auths)) → is_true (Conflict auth) ≡ true
  unfolding auth_or
  conflict_true auth auths h =
      let found = from_mapped Conflict (Conflict auth) (conflicts auths) h in
      let same : auth ≡ found.0 = ap (auth_or auth) found.1 in
      ap (is_conflict root answer.asn period (answer_links answer)) same ∙ (filtered (is_conflict root answer.asn period (answer_links answer)) found.0 auths found.2).1

  pub all_true : (auths : List Authenticator) (claim : Claim) → IsOneOf claim (claims_of (report auths)) → is_true claim ≡ true
  unfolding is_conflict_claim is_wrong_claim is_broken_claim
  all_true auths (Conflict auth) h = by (of_parts (Conflict auth) (report auths) h)
    where
      by : Parts (Conflict auth) (report auths) → is_true (Conflict auth) ≡ true
      by (inl k) = conflict_true auth auths k
      by (inr (inl k)) = no_wrong (Conflict auth) (report auths).wrong refl k
      by (inr (inr k)) = no_broken (Conflict auth) (report auths).broken refl k
  all_true auths (Wrong seq cause) h = by (of_parts (Wrong seq cause) (report auths) h)
    where
      by : Parts (Wrong seq cause) (report auths) → is_true (Wrong seq cause) ≡ true
      by (inl k) = no_conflict (Wrong seq cause) (report auths).conflicts refl k
      by (inr (inl k)) = listed_wrong (numbers_of_all files) base period answer.first answer.entries seq cause k
      by (inr (inr k)) = no_broken (Wrong seq cause) (report auths).broken refl k
  all_true auths (Broken file promise prefix begin end) h = by (of_parts (Broken file promise prefix begin end) (report auths) h)
    where
      by : Parts (Broken file promise prefix begin end) (report auths) → is_true (Broken file promise prefix begin end) ≡ true
      by (inl k) = no_conflict (Broken file promise prefix begin end) (report auths).conflicts refl k
      by (inr (inl k)) = no_wrong (Broken file promise prefix begin end) (report auths).wrong refl k
      by (inr (inr k)) = listed_broken (promise_files files) truth base period answer.entries (key_of file promise prefix) (span_of begin end) k

  -- ---- a true claim is of the report

  pub of_report : (claim : Claim) → is_true claim ≡ true → IsOneOf claim (claims_of (report (alone claim)))
  of_report (Conflict auth) h =
      in_conflicts (Conflict auth) (report (auth ∷ [])) (one_mapped Conflict auth (conflicts (auth ∷ [])) (passed (is_conflict root answer.asn period (answer_links answer)) auth (auth ∷ []) h (inl refl)))
  of_report (Wrong seq cause) h =
      in_wrong (Wrong seq cause) (report []) (wrong_listed (numbers_of_all files) base period answer.first answer.entries seq cause h)
  of_report (Broken file promise prefix begin end) h =
      in_broken (Broken file promise prefix begin end) (report []) (broken_listed (promise_files files) truth base period answer.entries (key_of file promise prefix) (span_of begin end) h)

  no_true : (b : Bool) → (b ≡ true → ⊥) → b ≡ false
  no_true true never = absurd (never refl)
  no_true false never = refl

  pub not_of_report : (claim : Claim) → (IsOneOf claim (claims_of (report (alone claim))) → ⊥) → is_true claim ≡ false
  not_of_report claim never = no_true (is_true claim) (λ h. never (of_report claim h))

-- ---- each is accepted

each_true : (test : Claim → Bool) (claims : List Claim) → ((c : Claim) → IsOneOf c claims → test c ≡ true) → map test claims ≡ map (λ (claim : Claim). true) claims
each_true test [] h = refl
each_true test (c ∷ claims) h =
    ap (λ (b : Bool). b ∷ map test claims) (h c (inl refl)) ∙ ap (λ (l : List Bool). true ∷ l) (each_true test claims (λ d k. h d (inr k)))

-- The facts ask for no authenticator.
fact_past : (fact : Option Fact) (x y : Result Report Fact) (r : Report) → refused_by fact x ≡ Ok r → (x ≡ Ok r) × (refused_by fact y ≡ y)
fact_past (Some f) x y r e = absurd cc
fact_past None x y r e = (e, refl)

test_past : (test : Bool) (fact : Fact) (x y : Result Report Fact) (r : Report) → holds_or test fact x ≡ Ok r → (x ≡ Ok r) × (holds_or test fact y ≡ y)
test_past true fact x y r e = (e, refl)
test_past false fact x y r e = absurd cc

abbrev good : Report → Result Report Fact
good r = Ok r

ok_is : (x r : Report) → good x ≡ good r → x ≡ r
ok_is x r e = cc

module _ (root : List ℕ) (files : List Audited) (truth : Truth) (answer : AnswerFile) (period : Period) where
  abbrev last : List Authenticator → Result Report Fact
  last auths = Ok (report_of root files truth nothing_before answer period auths)

  abbrev in_force : List Authenticator → Result Report Fact
  in_force auths = refused_by (promise_fact (numbers_of_all files) (digests_in_force nothing_before period answer.entries)) (last auths)

  abbrev long : List Authenticator → Result Report Fact
  long auths = holds_or (not (nat_le answer.head.time period.to)) (Short answer.head.time period.to) (in_force auths)

  abbrev chained : List Authenticator → Result Report Fact
  chained auths = holds_or (bytes_eq answer.head.hash (answer_value answer)) (Head answer.head.hash (answer_value answer)) (long auths)

  abbrev signed : List Authenticator → Result Report Fact
  signed auths = holds_or (is_signed root answer.head) Unsigned (chained auths)

  abbrev ours : List Authenticator → Result Report Fact
  ours auths = refused_by (network_fact answer.asn files) (signed auths)

  -- where an audit gives a report it is this one, and so is that without authenticators
  given : (auths : List Authenticator) (r : Report) → outcome root files truth answer period auths ≡ Ok r
      → (report_of root files truth nothing_before answer period auths ≡ r) × (outcome root files truth answer period [] ≡ last [])
  unfolding outcome outcome_over
  given auths r e =
      let s1 = test_past (answer.first == 1) Form (ours auths) (ours []) r e in
      let s2 = fact_past (network_fact answer.asn files) (signed auths) (signed []) r s1.0 in
      let s3 = test_past (is_signed root answer.head) Unsigned (chained auths) (chained []) r s2.0 in
      let s4 = test_past (bytes_eq answer.head.hash (answer_value answer)) (Head answer.head.hash (answer_value answer)) (long auths) (long []) r s3.0 in
      let s5 = test_past (not (nat_le answer.head.time period.to)) (Short answer.head.time period.to) (in_force auths) (in_force []) r s4.0 in
      let s6 = fact_past (promise_fact (numbers_of_all files) (digests_in_force nothing_before period answer.entries)) (last auths) (last []) r s5.0 in
      (ok_is _ r s6.0, s1.1 ∙ (s2.1 ∙ (s3.1 ∙ (s4.1 ∙ (s5.1 ∙ s6.1)))))

  pub all_accepted : (auths : List Authenticator) (r : Report) → outcome root files truth answer period auths ≡ Ok r
      → judged root files truth answer period (claims_of r) ≡ Ok (map (λ (claim : Claim). true) (claims_of r))
  unfolding judged
  all_accepted auths r e =
      let g = given auths r e in
      let told : List Bool = map (is_true_claim root files truth nothing_before answer period) (claims_of r) in
      ap (in_place told) g.1
      ∙ ap (λ (l : List Bool). Ok l) (each_true (is_true_claim root files truth nothing_before answer period) (claims_of r)
      (λ c k. all_true root files truth nothing_before answer period auths c (subst (λ (x : Report). IsOneOf c (claims_of x)) (sym g.0) k)))

-- ---- the facts are the audit's

module _ (told : List Bool) where
  fact_same : (fact : Option Fact) (x y : Result Report Fact) → in_place told x ≡ in_place told y
      → in_place told (refused_by fact x) ≡ in_place told (refused_by fact y)
  fact_same (Some f) x y e = refl
  fact_same None x y e = e

  test_same : (test : Bool) (fact : Fact) (x y : Result Report Fact) → in_place told x ≡ in_place told y
      → in_place told (holds_or test fact x) ≡ in_place told (holds_or test fact y)
  test_same true fact x y e = e
  test_same false fact x y e = refl

module _ (root : List ℕ) (files : List Audited) (truth : Truth) (answer : AnswerFile) (period : Period) where
  -- whatever authenticators are presented
  outcome_same : (told : List Bool) (auths others : List Authenticator)
      → in_place told (outcome root files truth answer period auths) ≡ in_place told (outcome root files truth answer period others)
  unfolding outcome outcome_over
  outcome_same told auths others =
      test_same told (answer.first == 1) Form (ours root files truth answer period auths) (ours root files truth answer period others)
      (fact_same told (network_fact answer.asn files) (signed root files truth answer period auths) (signed root files truth answer period others)
      (test_same told (is_signed root answer.head) Unsigned (chained root files truth answer period auths) (chained root files truth answer period others)
      (test_same told (bytes_eq answer.head.hash (answer_value answer)) (Head answer.head.hash (answer_value answer)) (long root files truth answer period auths) (long root files truth answer period others)
      (test_same told (not (nat_le answer.head.time period.to)) (Short answer.head.time period.to) (in_force root files truth answer period auths) (in_force root files truth answer period others)
      (fact_same told (promise_fact (numbers_of_all files) (digests_in_force nothing_before period answer.entries)) (last root files truth answer period auths) (last root files truth answer period others) refl)))))

  pub as_audited : (auths : List Authenticator) (claims : List Claim)
      → judged root files truth answer period claims
      ≡ in_place (map (is_true_claim root files truth nothing_before answer period) claims) (outcome root files truth answer period auths)
  unfolding judged
  as_audited auths claims = outcome_same (map (is_true_claim root files truth nothing_before answer period) claims) [] auths
