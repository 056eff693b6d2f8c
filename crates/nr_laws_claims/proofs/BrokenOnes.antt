-- Broken runs and the claims of a report.
use Rattle.std.proofs.Common.{inl, inr}
use Rattle.nr_laws_promises.proofs.Exactly.{are_broken}
use Rattle.nr_spec_outcome.specs.Report.{broken_claim}
use Rattle.nr_spec_claims.specs.Claims.{is_broken_run}
use Rattle.nr_spec_promises.specs.Found.{broken_runs}
use Rattle.std.proofs.Common.{map}
use Rattle.nr_laws_promises.specs.BrokenRows.{IsOneOf}
use Rattle.nr_spec_bgp.specs.Prefixes.{Cidr}
use Rattle.nr_spec_claims.specs.Claims.{same_span}
use Rattle.nr_spec_history.specs.Conflicts.{Period}
use Rattle.nr_spec_runs.specs.Runs.{Key, Span}
use Rattle.nr_spec_log.specs.Chain.{LogEntry}
use Rattle.nr_spec_promises.specs.Files.{PromiseFile}
use Rattle.nr_spec_report.specs.Claims.{Broken, Claim, Conflict, Wrong}
use Rattle.nr_spec_report.specs.Wrong.{Base}
use Rattle.nr_spec_runs.specs.Runs.{Run, is_run_of, same_key, spans_of}
use Rattle.nr_spec_truth.specs.Truths.{Truth}
use Rattle.std.proofs.Common.{Bool, List, [], ap, arith, cond, false, filter, refl, sym, true, ℕ, ◌&&◌, ◌==◌, ◌||◌, ◌∙◌, ◌∷◌, ◌≡◌, ◌⊎◌}
use Rattle.std.proofs.lemmas.Bool.Decides.{nat_tests}
use Rattle.std.specs.List.{list_any}

same_number : (m n : ℕ) → (m == n) ≡ true → m ≡ n
same_number m n h = grind (arith, nat_tests)

and_left : (a b : Bool) → a && b ≡ true → a ≡ true
and_left true b h = refl
and_left false b h = absurd cc

and_right : (a b : Bool) → a && b ≡ true → b ≡ true
and_right true b h = h
and_right false b h = absurd cc

both : (a b : Bool) → a ≡ true → b ≡ true → a && b ≡ true
both a b h k = rw (h, k) refl

-- a claim of a key and a span
abbrev claim : Key → Span → Claim
claim key s = Broken key.file key.promise key.prefix s.begin s.end

claim_is : (key : Key) (s : Span) (r : Run) → same_key key r.key ≡ true → same_span s r.span ≡ true → claim key s ≡ broken_claim r
claim_is key s r k t = λ i.
    Broken (same_number key.file r.key.file (and_left _ _ (and_left _ _ k)) i) (same_number key.promise r.key.promise (and_right _ _ (and_left _ _ k)) i)
    (record { addr = same_number key.prefix.addr r.key.prefix.addr (and_left _ _ (and_right _ _ k)) i; len = same_number key.prefix.len r.key.prefix.len (and_right _ _ (and_right _ _ k)) i })
    (same_number s.begin r.span.begin (and_left _ _ t) i) (same_number s.end r.span.end (and_right _ _ t) i)

own_key : (k : Key) → same_key k k ≡ true
own_key k = grind (arith, nat_tests)

own_span : (s : Span) → same_span s s ≡ true
own_span s = grind (arith, nat_tests)

file_of : Claim → ℕ
file_of (Broken f r p b e) = f
file_of (Wrong seq cause) = 0
file_of (Conflict auth) = 0

promise_of : Claim → ℕ
promise_of (Broken f r p b e) = r
promise_of (Wrong seq cause) = 0
promise_of (Conflict auth) = 0

nowhere : Cidr
nowhere = record { addr = 0; len = 0 }

prefix_of : Claim → Cidr
prefix_of (Broken f r p b e) = p
prefix_of (Wrong seq cause) = nowhere
prefix_of (Conflict auth) = nowhere

begin_of : Claim → ℕ
begin_of (Broken f r p b e) = b
begin_of (Wrong seq cause) = 0
begin_of (Conflict auth) = 0

end_of : Claim → ℕ
end_of (Broken f r p b e) = e
end_of (Wrong seq cause) = 0
end_of (Conflict auth) = 0

key_so : (key : Key) (s : Span) (r : Run) → claim key s ≡ broken_claim r → key ≡ r.key
unfolding file_of promise_of prefix_of
key_so key s r e = λ i. record { file = file_of (e i); promise = promise_of (e i); prefix = prefix_of (e i) }

span_so : (key : Key) (s : Span) (r : Run) → claim key s ≡ broken_claim r → s ≡ r.span
unfolding begin_of end_of
span_so key s r e = λ i. record { begin = begin_of (e i); end = end_of (e i) }

listed : (key : Key) (s : Span) (found : List Run) → list_any (same_span s) (spans_of key found) ≡ true → IsOneOf (claim key s) (map broken_claim found)
listed key s [] h = absurd cc
listed key s (r ∷ found) h = by (is_run_of key r) refl h (λ k. listed key s found k)
  where
    Later : Type 0
    Later = list_any (same_span s) (spans_of key found) ≡ true → IsOneOf (claim key s) (map broken_claim found)

    one : (t : Bool) → same_span s r.span ≡ t → is_run_of key r ≡ true → (t || list_any (same_span s) (spans_of key found)) ≡ true → Later → (claim key s ≡ broken_claim r) ⊎ IsOneOf (claim key s) (map broken_claim found)
    one true t k h ih = inl (claim_is key s r k t)
    one false t k h ih = inr (ih h)

    by : (b : Bool) → is_run_of key r ≡ b → list_any (same_span s) (map (λ (x : Run). x.span) (cond b (r ∷ filter (is_run_of key) found) (filter (is_run_of key) found))) ≡ true → Later
        → (claim key s ≡ broken_claim r) ⊎ IsOneOf (claim key s) (map broken_claim found)
    by true k h ih = one (same_span s r.span) refl k h ih
    by false k h ih = inr (ih h)

unlisted : (key : Key) (s : Span) (found : List Run) → IsOneOf (claim key s) (map broken_claim found) → list_any (same_span s) (spans_of key found) ≡ true
unlisted key s [] h = absurd h
unlisted key s (r ∷ found) h = by (is_run_of key r) refl h (λ k. unlisted key s found k)
  where
    Later : Type 0
    Later = IsOneOf (claim key s) (map broken_claim found) → list_any (same_span s) (spans_of key found) ≡ true

    or_right : (a b : Bool) → b ≡ true → (a || b) ≡ true
    or_right true b h = refl
    or_right false b h = h

    here : claim key s ≡ broken_claim r → (is_run_of key r ≡ true) × (same_span s r.span ≡ true)
    here e = (ap (λ (k : Key). same_key key k) (sym (key_so key s r e)) ∙ own_key key, ap (same_span s) (sym (span_so key s r e)) ∙ own_span s)

    by : (b : Bool) → is_run_of key r ≡ b → (claim key s ≡ broken_claim r) ⊎ IsOneOf (claim key s) (map broken_claim found) → Later
        → list_any (same_span s) (map (λ (x : Run). x.span) (cond b (r ∷ filter (is_run_of key) found) (filter (is_run_of key) found))) ≡ true
    by true k (inl e) ih = ap (λ t. t || list_any (same_span s) (spans_of key found)) (here e).1
    by true k (inr m) ih = or_right (same_span s r.span) _ (ih m)
    by false k (inl e) ih = let t = (here e).0 in absurd (cc (k, t))
    by false k (inr m) ih = ih m

pub broken_listed : (files : List PromiseFile) (truth : Truth) (base : Base) (period : Period) (entries : List LogEntry) (key : Key) (s : Span)
    → is_broken_run files truth base period entries key s ≡ true → IsOneOf (claim key s) (map broken_claim (broken_runs files truth base period entries))
unfolding is_broken_run
broken_listed files truth base period entries key s h =
    listed key s (broken_runs files truth base period entries) (ap (list_any (same_span s)) ((are_broken files truth base period entries).each key) ∙ h)

pub listed_broken : (files : List PromiseFile) (truth : Truth) (base : Base) (period : Period) (entries : List LogEntry) (key : Key) (s : Span)
    → IsOneOf (claim key s) (map broken_claim (broken_runs files truth base period entries)) → is_broken_run files truth base period entries key s ≡ true
unfolding is_broken_run
listed_broken files truth base period entries key s m =
    sym (ap (list_any (same_span s)) ((are_broken files truth base period entries).each key)) ∙ unlisted key s (broken_runs files truth base period entries) m
