-- Wrong entries and the claims of a report.
use Rattle.std.proofs.Common.{subst}
use Rattle.std.proofs.Common.{inl, inr, ◌∙◌}
use Rattle.nr_laws_claims.proofs.Members.{one_left}
use Rattle.nr_spec_claims.specs.Claims.{is_wrong_at, is_wrong_entry}
use Rattle.nr_spec_report.specs.Wrong.{cause_after, is_within, wrong_after, wrong_entries, wrong_next}
use Rattle.std.proofs.Common.{length, slice_get, suc, sym, take, zero}
use Rattle.nr_laws_claims.proofs.Members.{one_of_both, one_right}
use Rattle.nr_laws_promises.specs.BrokenRows.{IsOneOf}
use Rattle.nr_spec_claims.specs.Claims.{has_number}
use Rattle.nr_spec_counts.specs.Causes.{cause_number}
use Rattle.nr_spec_counts.specs.Tallies.{Numbers}
use Rattle.nr_spec_counts.specs.declared.cause.Cause.{Cause}
use Rattle.nr_spec_history.specs.Conflicts.{Period}
use Rattle.nr_spec_log.specs.Chain.{LogEntry}
use Rattle.nr_spec_outcome.specs.Report.{wrong_claim}
use Rattle.nr_spec_report.specs.Claims.{Broken, Claim, Conflict, Wrong}
use Rattle.nr_spec_report.specs.Wrong.{Base, WrongEntry, wrong_by}
use Rattle.std.proofs.Common.{Bool, List, None, Option, Some, [], ap, append-nil, append_assoc, arith, cond, false, map, nat_le, refl, true, ℕ, ◌&&◌, ◌++◌, ◌+◌, ◌-◌, ◌==◌, ◌∷◌, ◌≡◌, ◌≤◌, ◌⊎◌}
use Rattle.std.proofs.lemmas.Bool.Decides.{nat_tests}

abbrev claims : List WrongEntry → List Claim
claims ws = map wrong_claim ws

number_of : Claim → ℕ
number_of (Wrong seq cause) = seq
number_of (Conflict auth) = 0
number_of (Broken file promise prefix begin end) = 0

cause_in_claim : Claim → ℕ
cause_in_claim (Wrong seq cause) = cause
cause_in_claim (Conflict auth) = 0
cause_in_claim (Broken file promise prefix begin end) = 0

same_number : (m n : ℕ) → (m == n) ≡ true → m ≡ n
same_number m n h = grind (arith, nat_tests)

number_itself : (m n : ℕ) → m ≡ n → (n == m) ≡ true
number_itself m n h = grind (arith, nat_tests)

-- ---- one entry

next_true : (b : Bool) (c : Option Cause) (seq n number : ℕ) → IsOneOf (Wrong seq number) (claims (cond b (wrong_by n c) [])) → (seq ≡ n) × ((b && has_number number c) ≡ true)
unfolding number_of cause_in_claim
next_true false c seq n number h = absurd h
next_true true None seq n number h = absurd h
next_true true (Some cause) seq n number (inl e) = (ap number_of e, number_itself number (cause_number cause) (ap cause_in_claim e))
next_true true (Some cause) seq n number (inr h) = absurd h

true_next : (b : Bool) (c : Option Cause) (n number : ℕ) → (b && has_number number c) ≡ true → IsOneOf (Wrong n number) (claims (cond b (wrong_by n c) []))
true_next false c n number h = absurd cc
true_next true None n number h = absurd cc
true_next true (Some cause) n number h = inl (ap (λ (k : ℕ). Wrong n k) (sym (same_number (cause_number cause) number h)))

-- ---- all of them

map_both : (xs ys : List WrongEntry) → claims (xs ++ ys) ≡ claims xs ++ claims ys
map_both [] ys = refl
map_both (x ∷ xs) ys = ap (λ (l : List Claim). wrong_claim x ∷ l) (map_both xs ys)

length_more : (past : List LogEntry) (e : LogEntry) → length (past ++ e ∷ []) ≡ suc (length past)
length_more [] e = refl
length_more (x ∷ past) e = ap (λ (n : ℕ). suc n) (length_more past e)

placed : (first k : ℕ) (past : List LogEntry) (e : LogEntry) → first + length (past ++ e ∷ []) + k ≡ first + length past + suc k
placed first k past e = omega (arith, length_more past e)

pub record Found (files : List Numbers) (base : Base) (period : Period) (first seq number : ℕ) (past later : List LogEntry) : Type 0 where
  pub place : ℕ
  pub is : seq ≡ first + length past + place
  pub wrong : is_wrong_at files base period seq number (past ++ take place later) (slice_get later place) ≡ true

pub found_at : (files : List Numbers) (base : Base) (period : Period) (first seq number : ℕ) (past later : List LogEntry)
    → IsOneOf (Wrong seq number) (claims (wrong_after files base period first past later)) → Found files base period first seq number past later
found_at files base period first seq number past [] h = absurd h
found_at files base period first seq number past (e ∷ later) h =
    by (one_of_both (Wrong seq number) (claims (wrong_next files base period first past e)) (claims (wrong_after files base period first (past ++ e ∷ []) later))
    (subst (IsOneOf (Wrong seq number)) (map_both (wrong_next files base period first past e) (wrong_after files base period first (past ++ e ∷ []) later)) h))
    (λ k. found_at files base period first seq number (past ++ e ∷ []) later k)
  where
    by : IsOneOf (Wrong seq number) (claims (wrong_next files base period first past e)) ⊎ IsOneOf (Wrong seq number) (claims (wrong_after files base period first (past ++ e ∷ []) later))
        → (IsOneOf (Wrong seq number) (claims (wrong_after files base period first (past ++ e ∷ []) later)) → Found files base period first seq number (past ++ e ∷ []) later)
        → Found files base period first seq number past (e ∷ later)
    by (inl here) ih =
        let one = next_true (is_within period e.time) (cause_after files base past (first + length past) e) seq (first + length past) number here in
        let same : seq ≡ first + length past + 0 = omega (arith, one.0) in
        record {
          place = 0;
          is = same;
          wrong = ap (λ (l : List LogEntry). is_within period e.time && has_number number (cause_after files base l seq e)) (append-nil past)
              ∙ (ap (λ (n : ℕ). is_within period e.time && has_number number (cause_after files base past n e)) one.0 ∙ one.1);
        }
    by (inr rest) ih =
        let f = ih rest in
        record {
          place = suc f.place;
          is = f.is ∙ placed first f.place past e;
          wrong = ap (λ (l : List LogEntry). is_wrong_at files base period seq number l (slice_get later f.place)) (sym (append_assoc past (e ∷ []) (take f.place later))) ∙ f.wrong;
        }

pub at_found : (files : List Numbers) (base : Base) (period : Period) (first number k : ℕ) (past later : List LogEntry)
    → is_wrong_at files base period (first + length past + k) number (past ++ take k later) (slice_get later k) ≡ true
    → IsOneOf (Wrong (first + length past + k) number) (claims (wrong_after files base period first past later))
at_found files base period first number k past [] h = absurd cc
at_found files base period first number zero past (e ∷ later) h =
    let zero_more : first + length past + 0 ≡ first + length past = omega arith in
    let is : (is_within period e.time && has_number number (cause_after files base past (first + length past) e)) ≡ true
    = ap (λ (n : ℕ). is_within period e.time && has_number number (cause_after files base past n e)) (sym zero_more)
    ∙ (ap (λ (l : List LogEntry). is_within period e.time && has_number number (cause_after files base l (first + length past + 0) e)) (sym (append-nil past)) ∙ h) in
    subst (λ (n : ℕ). IsOneOf (Wrong n number) (claims (wrong_after files base period first past (e ∷ later)))) (sym zero_more)
    (subst (IsOneOf (Wrong (first + length past) number)) (sym (map_both (wrong_next files base period first past e) (wrong_after files base period first (past ++ e ∷ []) later)))
    (one_left (Wrong (first + length past) number) (claims (wrong_next files base period first past e)) (claims (wrong_after files base period first (past ++ e ∷ []) later))
    (true_next (is_within period e.time) (cause_after files base past (first + length past) e) (first + length past) number is)))
at_found files base period first number (suc k) past (e ∷ later) h =
    let same = placed first k past e in
    let is = ap (λ (n : ℕ). is_wrong_at files base period n number ((past ++ e ∷ []) ++ take k later) (slice_get later k)) same
    ∙ (ap (λ (l : List LogEntry). is_wrong_at files base period (first + length past + suc k) number l (slice_get later k)) (append_assoc past (e ∷ []) (take k later)) ∙ h) in
    subst (λ (n : ℕ). IsOneOf (Wrong n number) (claims (wrong_after files base period first past (e ∷ later)))) same
    (subst (IsOneOf (Wrong (first + length (past ++ e ∷ []) + k) number)) (sym (map_both (wrong_next files base period first past e) (wrong_after files base period first (past ++ e ∷ []) later)))
    (one_right (Wrong (first + length (past ++ e ∷ []) + k) number) (claims (wrong_next files base period first past e)) (claims (wrong_after files base period first (past ++ e ∷ []) later))
    (at_found files base period first number k (past ++ e ∷ []) later is)))

-- ---- by its number

both : (a b : Bool) → a ≡ true → b ≡ true → (a && b) ≡ true
both true true h k = refl
both true false h k = absurd cc
both false b h k = absurd cc

parts : (a b : Bool) → (a && b) ≡ true → (a ≡ true) × (b ≡ true)
parts true true h = (refl, refl)
parts true false h = absurd cc
parts false b h = absurd cc

not_below : (first seq k : ℕ) → seq ≡ first + 0 + k → nat_le first seq ≡ true
not_below first seq k h = grind (arith, nat_tests)

below : (first seq : ℕ) → nat_le first seq ≡ true → seq ≡ first + 0 + (seq - first)
below first seq h = let le : first ≤ seq = grind (arith, nat_tests) in omega (arith, le)

pub wrong_listed : (files : List Numbers) (base : Base) (period : Period) (first : ℕ) (entries : List LogEntry) (seq number : ℕ)
    → is_wrong_entry files base period first entries seq number ≡ true → IsOneOf (Wrong seq number) (claims (wrong_entries files base period first entries))
unfolding is_wrong_entry
wrong_listed files base period first entries seq number h =
    let p = parts (nat_le first seq) _ h in
    let same = below first seq p.0 in
    subst (λ (n : ℕ). IsOneOf (Wrong n number) (claims (wrong_entries files base period first entries))) (sym same)
    (at_found files base period first number (seq - first) [] entries
    (ap (λ (n : ℕ). is_wrong_at files base period n number (take (seq - first) entries) (slice_get entries (seq - first))) (sym same) ∙ p.1))

pub listed_wrong : (files : List Numbers) (base : Base) (period : Period) (first : ℕ) (entries : List LogEntry) (seq number : ℕ)
    → IsOneOf (Wrong seq number) (claims (wrong_entries files base period first entries)) → is_wrong_entry files base period first entries seq number ≡ true
unfolding is_wrong_entry
listed_wrong files base period first entries seq number h =
    let f = found_at files base period first seq number [] entries h in
    let place : seq - first ≡ f.place = omega (arith, f.is) in
    both (nat_le first seq) _ (not_below first seq f.place f.is)
    (ap (λ (k : ℕ). is_wrong_at files base period seq number (take k entries) (slice_get entries k)) place ∙ f.wrong)
