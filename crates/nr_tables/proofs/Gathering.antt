-- Prefixes gathered one after another.
use Rattle.std.proofs.Common.{◌≡◌, ◌||◌, Bool, true, false, List, ◌∷◌, refl, ap, ◌∙◌}
use Rattle.std.specs.BTreeSet.{insert_key}
use Rattle.std.specs.Ordering.{is_eq}
use Rattle.nr_spec_bgp.specs.Prefixes.{Cidr}
use Rattle.nr_spec_routes.specs.Keys.{cidr_cmp, is_named}
use Rattle.nr_spec_routes.proofs.Once.{named_more}

moved : (a b c : Bool) → (b || (a || c)) ≡ ((a || b) || c)
moved true true c = refl
moved true false c = refl
moved false true c = refl
moved false false c = refl

-- one is gathered, and the rest is left
pub one_gathered : (x p : Cidr) (rest gathered : List Cidr)
    → (is_named rest p || is_named (insert_key cidr_cmp gathered x) p) ≡ (is_named (x ∷ rest) p || is_named gathered p)
one_gathered x p rest gathered =
    ap (λ t. is_named rest p || t) (named_more gathered x p) ∙ moved (is_eq (cidr_cmp x p)) (is_named rest p) (is_named gathered p)
