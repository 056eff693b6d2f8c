-- Prefixes among others.
use Rattle.std.proofs.Common.{◌≡◌, ◌==◌, Bool, true, false, ◌&&◌, List, [], ◌∷◌, ◌++◌, refl, ap, sym, ◌∙◌, arith}
use Rattle.std.specs.Prelude.{◌||◌}
use Rattle.std.specs.List.{list_any, flat_map}
use Rattle.std.specs.List.Sorted.{IsStrictlySortedBy}
use Rattle.std.specs.Ordering.{is_eq}
use Rattle.std.proofs.lemmas.Bool.Decides.{nat_tests}
use Rattle.nr_spec_bgp.specs.Prefixes.{Cidr}
use Rattle.nr_spec_routes.specs.Keys.{Row, cidr_cmp, is_named, standing}
use Rattle.nr_spec_routes.proofs.Once.{named_once, named_append, only_once}
use Rattle.nr_spec_runs.specs.Runs.{same_prefix}
use Rattle.nr_spec_promises.specs.Files.{PromiseFile}
use Rattle.nr_spec_promises.specs.Counted.{named_in, named_by}
use Rattle.nr_judging.specs.Asked.{in_sight}

pub same_is : (p q : Cidr) → (p.addr == q.addr && p.len == q.len) ≡ is_eq (cidr_cmp p q)
same_is p q = grind (arith, nat_tests)

same_one : (p q : Cidr) → same_prefix p q ≡ is_eq (cidr_cmp q p)
same_one p q = grind (arith, nat_tests)

-- two ways to say that a prefix is among others
pub same_named : (p : Cidr) (ps : List Cidr) → list_any (same_prefix p) ps ≡ is_named ps p
same_named p [] = refl
same_named p (q ∷ ps) = ap (λ t. t || list_any (same_prefix p) ps) (same_one p q) ∙ ap (λ t. is_eq (cidr_cmp q p) || t) (same_named p ps)

turned : (f s t : Bool) → (f || (s || (t || false))) ≡ (t || (s || f))
turned true true true = refl
turned true true false = refl
turned true false true = refl
turned true false false = refl
turned false true true = refl
turned false true false = refl
turned false false true = refl
turned false false false = refl

-- what was gathered is all that is in sight
pub all_gathered : (files : List PromiseFile) (rows : List Row) (touched gathered : List Cidr) → IsStrictlySortedBy cidr_cmp gathered
    → ((p : Cidr) → is_named gathered p ≡ (is_named (flat_map named_in files) p || (is_named (standing rows) p || (is_named touched p || false))))
    → gathered ≡ in_sight files rows touched
all_gathered files rows touched gathered order same =
    only_once gathered (touched ++ (standing rows ++ named_by files)) order (λ (p : Cidr).
    same p ∙ turned (is_named (flat_map named_in files) p) (is_named (standing rows) p) (is_named touched p)
    ∙ ap (λ t. is_named touched p || (is_named (standing rows) p || t)) (sym (named_once (flat_map named_in files) p))
    ∙ ap (λ t. is_named touched p || t) (sym (named_append (standing rows) (named_by files) p))
    ∙ sym (named_append touched (standing rows ++ named_by files) p))

-- who is in sight
pub sight_is : (files : List PromiseFile) (rows : List Row) (touched : List Cidr) (p : Cidr)
    → is_named (in_sight files rows touched) p ≡ (is_named touched p || (is_named (standing rows) p || is_named (flat_map named_in files) p))
sight_is files rows touched p =
    named_once (touched ++ (standing rows ++ named_by files)) p ∙ named_append touched (standing rows ++ named_by files) p
    ∙ ap (λ t. is_named touched p || t) (named_append (standing rows) (named_by files) p)
    ∙ ap (λ t. is_named touched p || (is_named (standing rows) p || t)) (named_once (flat_map named_in files) p)
