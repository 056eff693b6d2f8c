-- What the ending of a verifier tells of its values.
use Rattle.std.proofs.Common.{◌≡◌, ℕ, Bool, true, false, not, List, [], ◌∷◌, ◌++◌, length, map, refl, ap, inl, inr}
use Rattle.std.specs.Prelude.{if◌then◌else◌, codes}
use Rattle.std.specs.Fmt.{decimal}
use Rattle.std.specs.List.{AllByRecursion, flat_map, list_any}
use Rattle.std.proofs.lemmas.List.{length-map}
use Rattle.nr_spec_history.specs.Lines.{line}
use Rattle.nr_spec_report.specs.Claims.{Claim}
use Rattle.nr_spec_program.specs.Command.{Ending}
use Rattle.nr_spec_program.specs.Verifying.{claim_line, verified_ending}
use Rattle.nr_laws_promises.specs.BrokenRows.{IsOneOf}
use Rattle.nr_laws_handed.specs.Handed.{accepted_ending}

-- ---- the status

abbrev status_of : Bool → ℕ
status_of one = if one then 1 else 0

by_one : (one : Bool) → status_of one ≡ 1 → one ≡ true
by_one true is = refl
by_one false is = absurd cc

by_none : (one : Bool) → status_of one ≡ 0 → one ≡ false
by_none true is = absurd cc
by_none false is = refl

one_false : (values : List Bool) → list_any not values ≡ true → IsOneOf false values
one_false [] is = absurd cc
one_false (true ∷ others) is = inr (one_false others is)
one_false (false ∷ others) is = inl refl

any_false : (values : List Bool) → IsOneOf false values → list_any not values ≡ true
any_false [] is = absurd is
any_false (true ∷ others) (inl is) = absurd cc
any_false (true ∷ others) (inr is) = any_false others is
any_false (false ∷ others) is = refl

all_true : (values : List Bool) → list_any not values ≡ false → AllByRecursion (λ value. value ≡ true) values
all_true [] is = tt
all_true (true ∷ others) is = (refl, all_true others is)
all_true (false ∷ others) is = absurd cc

none_false : (values : List Bool) → AllByRecursion (λ value. value ≡ true) values → list_any not values ≡ false
none_false [] are = refl
none_false (true ∷ others) (is, are) = none_false others are
none_false (false ∷ others) (is, are) = absurd cc

pub one_is_false : (values : List Bool) → ((verified_ending values).status ≡ 1 → IsOneOf false values) × (IsOneOf false values → (verified_ending values).status ≡ 1)
unfolding verified_ending
one_is_false values = (λ is. one_false values (by_one (list_any not values) is), λ is. ap status_of (any_false values is))

pub all_are_true : (values : List Bool)
    → ((verified_ending values).status ≡ 0 → AllByRecursion (λ value. value ≡ true) values) × (AllByRecursion (λ value. value ≡ true) values → (verified_ending values).status ≡ 0)
unfolding verified_ending
all_are_true values = (λ is. all_true values (by_none (list_any not values) is), λ are. ap status_of (none_false values are))

-- ---- where each is accepted

trues : (claims : List Claim) → list_any not (map (λ claim. true) claims) ≡ false
trues [] = refl
trues (claim ∷ others) = trues others

accepted_lines : (claims : List Claim) → flat_map claim_line (map (λ claim. true) claims) ≡ flat_map (λ claim. line (codes "accepted" ∷ [])) claims
accepted_lines [] = refl
accepted_lines (claim ∷ others) = ap (λ (rest : List ℕ). line (codes "accepted" ∷ []) ++ rest) (accepted_lines others)

ending_of : (one : Bool) (count : ℕ) (lines : List ℕ) → Ending
ending_of one count lines = record { status = if one then 1 else 0; text = line (codes "claims" ∷ decimal count ∷ []) ++ lines }

ending_as : (one other : Bool) (count number : ℕ) (lines rows : List ℕ) → one ≡ other → count ≡ number → lines ≡ rows → ending_of one count lines ≡ ending_of other number rows
ending_as one other count number lines rows a b c = rw (a, b, c) refl

pub all_accepted : (claims : List Claim) → verified_ending (map (λ claim. true) claims) ≡ accepted_ending claims
unfolding verified_ending ending_of
all_accepted claims =
    ending_as (list_any not (map (λ claim. true) claims)) false (length (map (λ claim. true) claims)) (length claims) (flat_map claim_line (map (λ claim. true) claims)) (flat_map (λ claim. line (codes "accepted" ∷ [])) claims)
    (trues claims) (length-map claims (λ claim. true)) (accepted_lines claims)
