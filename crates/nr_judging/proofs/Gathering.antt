-- Prefixes that are gathered one by one.
use Rattle.std.proofs.Common.{◌≡◌, ◌||◌, ◌+◌, ◌<◌, ℕ, Bool, true, false, List, [], ◌∷◌, ◌++◌, length, take, get_or, refl, ap, sym, ◌∙◌, append_assoc, append-nil}
use Rattle.std.specs.List.{flat_map}
use Rattle.std.specs.BTreeSet.{insert_key}
use Rattle.std.specs.Ordering.{is_eq}
use Rattle.nr_spec_bgp.specs.Prefixes.{Cidr}
use Rattle.nr_spec_routes.specs.Keys.{cidr_cmp, is_named}
use Rattle.nr_spec_routes.proofs.Once.{named_more, named_append}
use Rattle.nr_judging.proofs.Stages.{took_more}

turned : (a b c : Bool) → (a || (b || c)) ≡ ((b || (a || false)) || c)
turned true true c = refl
turned true false c = refl
turned false true c = refl
turned false false c = refl

pub one_added : (ps old now : List Cidr) (i : ℕ) (x p : Cidr) → i < length ps → x ≡ get_or ps i x → is_named now p ≡ (is_named (take i ps) p || is_named old p)
    → is_named (insert_key cidr_cmp now x) p ≡ (is_named (take (i + 1) ps) p || is_named old p)
one_added ps old now i x p lt is h =
    named_more now x p ∙ ap (λ t. is_eq (cidr_cmp x p) || t) h ∙ turned (is_eq (cidr_cmp x p)) (is_named (take i ps) p) (is_named old p)
    ∙ ap (λ t. t || is_named old p) (sym (ap (λ l. is_named l p) (took_more ps i x lt is) ∙ named_append (take i ps) (x ∷ []) p))

-- of prefixes in a row
pub one_gathered : (x p : Cidr) (rest gathered : List Cidr) → (is_named rest p || is_named (insert_key cidr_cmp gathered x) p) ≡ (is_named (x ∷ rest) p || is_named gathered p)
one_gathered x p rest gathered = ap (λ t. is_named rest p || t) (named_more gathered x p) ∙ regrouped (is_named rest p) (is_eq (cidr_cmp x p)) (is_named gathered p)
  where
    regrouped : (a e g : Bool) → (a || (e || g)) ≡ ((e || a) || g)
    regrouped true true g = refl
    regrouped true false g = refl
    regrouped false true g = refl
    regrouped false false g = refl

flat_push : {A B : Type 0} (f : A → List B) (xs : List A) (x : A) → flat_map f (xs ++ x ∷ []) ≡ flat_map f xs ++ f x
flat_push f [] x = append-nil (f x)
flat_push f (y ∷ xs) x = ap (λ l. f y ++ l) (flat_push f xs x) ∙ sym (append_assoc (f y) (flat_map f xs) (f x))

-- the prefixes of one more
pub more_named : {A : Type 0} (f : A → List Cidr) (xs more : List A) (x : A) (p : Cidr) (now old new : Bool) → more ≡ xs ++ x ∷ []
    → new ≡ (is_named (f x) p || now) → now ≡ (is_named (flat_map f xs) p || old) → new ≡ (is_named (flat_map f more) p || old)
more_named f xs more x p now old new is h k =
    h ∙ ap (λ t. is_named (f x) p || t) k ∙ swapped (is_named (f x) p) (is_named (flat_map f xs) p) old
    ∙ ap (λ t. t || old) (sym (ap (λ l. is_named (flat_map f l) p) is ∙ ap (λ l. is_named l p) (flat_push f xs x) ∙ named_append (flat_map f xs) (f x) p))
  where
    swapped : (a b c : Bool) → (a || (b || c)) ≡ ((b || a) || c)
    swapped true true c = refl
    swapped true false c = refl
    swapped false true c = refl
    swapped false false c = refl
