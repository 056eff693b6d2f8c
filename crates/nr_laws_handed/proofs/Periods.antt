-- The periods that words ask for.
use Rattle.std.proofs.Common.{◌≡◌, ℕ, ◌≤◌, Bool, true, false, ◌&&◌, nat_le, List, ◌∷◌, Option, Some, None, refl, ap, subst, inl, inr}
use Rattle.std.specs.Prelude.{if◌then◌else◌}
use Rattle.std.specs.Str.Parse.{digits_value}
use Rattle.std.proofs.lemmas.Bool.{cases_Bool, leb-true, and_parts}
use Rattle.nr_spec_wire.specs.Optional.{◌>>=◌}
use Rattle.nr_spec_history.specs.Conflicts.{Period}
use Rattle.nr_words.specs.Grammar.{Values}
use Rattle.nr_spec_commands.specs.Words.{Audit, AuditRequest, Request, are_apart, audit_in, is_decimal, most_number, named, number_in, period_between, request_in, root_in, value_at}
use Rattle.nr_laws_words.specs.Commands.{Asks}

-- what stands behind a first value
record Then {A B : Type 0} (x : Option A) (f : A → Option B) (value : B) : Type 0 where
  pub first : A
  pub found : x ≡ Some first
  pub goes_on : f first ≡ Some value

then_of : {A B : Type 0} (x : Option A) (f : A → Option B) (value : B) → (x >>= f) ≡ Some value → Then x f value
then_of None f value is = absurd cc
then_of (Some a) f value is = record { first = a; found = refl; goes_on = is }

small : (word : List ℕ) (n : ℕ) → number_in word ≡ Some n → n ≤ most_number
small word n is = elim (cases_Bool (is_decimal word && nat_le (digits_value 10 word) most_number)) [
  | inl by ↦ (let e : digits_value 10 word ≡ n = (let got = rw by at is in cc) in subst (λ (m : ℕ). m ≤ most_number) e (leb-true (digits_value 10 word) most_number (and_parts (is_decimal word) (nat_le (digits_value 10 word) most_number) by).1))
  | inr by ↦ absurd (let got = rw by at is in cc)
]

-- a period that doesn't run back
record Runs (from to : ℕ) (period : Period) : Type 0 where
  pub begins : from ≡ period.from
  pub ends : to ≡ period.to
  pub in_order : from ≤ to

runs_on : (from to : ℕ) (period : Period) → period_between from to ≡ Some period → Runs from to period
runs_on from to period is = elim (cases_Bool (nat_le from to)) [
  | inl by ↦ (let e : record { from = from; to = to } ≡ period = (let got = rw by at is in cc) in record { begins = ap (λ (p : Period). p.from) e; ends = ap (λ (p : Period). p.to) e; in_order = leb-true from to by })
  | inr by ↦ absurd (let got = rw by at is in cc)
]

pub record InOrder (period : Period) : Type 0 where
  pub order : period.from ≤ period.to
  pub small : period.to ≤ most_number

apart_period : (test : Bool) (made q : AuditRequest) → (if test then Some made else None) ≡ Some q → made.period ≡ q.period
apart_period true made q is = let e : made ≡ q = cc in ap (λ (r : AuditRequest). r.period) e
apart_period false made q is = absurd cc

in_order : (values : Values) (q : AuditRequest) → audit_in values ≡ Some q → InOrder q.period
unfolding audit_in
in_order values q is =
    let a = then_of (value_at values 0) _ q is in
    let b = then_of (value_at values 1) _ q a.goes_on in
    let c = then_of (value_at values 2) _ q b.goes_on in
    let d = then_of (value_at values 3) _ q c.goes_on in
    let e = then_of (value_at values 4) _ q d.goes_on in
    let f = then_of (value_at values 5) _ q e.goes_on in
    let root = then_of (root_in a.first) _ q f.goes_on in
    let from = then_of (number_in e.first) _ q root.goes_on in
    let to = then_of (number_in f.first) _ q from.goes_on in
    let period = then_of (period_between from.first to.first) _ q to.goes_on in
    let same = apart_period (are_apart (b.first ∷ c.first ∷ d.first ∷ named (value_at values 6))) _ q period.goes_on in
    let r = runs_on from.first to.first period.first period.found in
    let low : to.first ≤ most_number = small f.first to.first to.found in
    let order : period.first.from ≤ period.first.to = subst (λ (n : ℕ). n ≤ period.first.to) r.begins (subst (λ (n : ℕ). from.first ≤ n) r.ends r.in_order) in
    subst InOrder same (record { order = order; small = subst (λ (n : ℕ). n ≤ most_number) r.ends low })

pub asked_in_order : ((words : List (List ℕ)) (request : Request) → (request_in words ≡ Some request → Asks words request) × (Asks words request → request_in words ≡ Some request))
    → (words : List (List ℕ)) (q : AuditRequest) → request_in words ≡ Some (Audit q) → InOrder q.period
asked_in_order asks words q is = let a = (asks words (Audit q)).0 is in in_order a.values q a.reads

pub period_of_words : ((words : List (List ℕ)) (request : Request) → (request_in words ≡ Some request → Asks words request) × (Asks words request → request_in words ≡ Some request))
    → (words : List (List ℕ)) (q : AuditRequest) → request_in words ≡ Some (Audit q) → (q.period.from ≤ q.period.to) × (q.period.to ≤ most_number)
period_of_words asks words q is = let o = asked_in_order asks words q is in (o.order, o.small)
