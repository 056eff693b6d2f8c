-- What names are resolved to.
use Rattle.std.proofs.Common.{◌≡◌, ℕ, zero, suc, ◌+◌, ◌<◌, cond, nat_lt, Bool, true, false, ◌&&◌, not, List, [], ◌∷◌, ◌++◌, length, position, slice_get, is_none, Option, Some, None, Ok, inl, inr, refl, ap, sym, subst, ◌∙◌, arith}
use Rattle.std.specs.List.{position_or_len, list_any}
use Rattle.std.specs.Str.{bytes_eq}
use Rattle.std.proofs.lemmas.Option.{slice_get_within}
use Rattle.std.proofs.lemmas.Slice.Eq.{bytes_eq-Decides}
use Rattle.std.proofs.lemmas.Bool.Decides.{nat_tests}
use Rattle.nr_rule_syntax.specs.declared.tree.Name.{Name}
use Rattle.nr_spec_typing.specs.declared.name.Bound.{Bound}
use Rattle.nr_spec_typing.specs.declared.name.Bound.TheVariants.{Neighbour, Route}
use Rattle.nr_spec_typing.specs.declared.name.Variable.{Variable}
use Rattle.nr_spec_typing.specs.Scopes.{Scope, meaning, same_bound, is_called, variable, who_by, who, route_by, route, is_fresh, new_variable, bind}
use Rattle.nr_spec_typing.proofs.Fitting.{passed, both, left, right}
use Rattle.nr_laws_typing.specs.Resolved.{SameWord, AreNamed, IsNext, Resolves}
use Rattle.nr_spec_typing.proofs.Differ.{got, no_two_more, none_like}

not_true : (a : Bool) → not a ≡ true → a ≡ false
not_true true h = cc
not_true false h = refl

pub named_more : (s : Scope) (name called : Name) (bound : Bound) → AreNamed s → new_variable s name ≡ Ok called → AreNamed (bind s bound called)
unfolding new_variable
named_more s name called bound named h =
    let p = passed (is_fresh s name.word) name.span.from name called h in
    let fresh = not_true (list_any (λ (v : Variable). bytes_eq v.word name.word) s.variables) (right (is_none (meaning s.names name.word)) (not (list_any (λ (v : Variable). bytes_eq v.word name.word) s.variables)) p.0) in
    subst (λ called. AreNamed (bind s bound called)) p.1
    (no_two_more SameWord (λ a b e. sym e) s.variables (record { word = name.word; bound = bound }) named
    (λ i y g e. none_like (λ (v : Variable). bytes_eq v.word name.word) s.variables i y fresh g ((bytes_eq-Decides y.word name.word).1 e)))

-- the first that passes is the only one
first_is : (b : Bool) (n i : ℕ) → (b ≡ true → zero ≡ suc i) → n ≡ i → cond (not b) (1 + n) 0 ≡ suc i
first_is true n i f e = f refl
first_is false n i f e = omega arith

alone : {A : Type 0} (p : A → Bool) (xs : List A) (i : ℕ) (v : A) → slice_get xs i ≡ Some v → p v ≡ true → ((j : ℕ) (w : A) → slice_get xs j ≡ Some w → p w ≡ true → j ≡ i) → position_or_len p xs ≡ i
alone p [] i v g h only = cc
alone p (x ∷ xs) zero v g h only = let e : x ≡ v = cc in ap (λ b. cond (not b) (1 + position_or_len p xs) 0) (ap p e ∙ h)
alone p (x ∷ xs) (suc i) v g h only = first_is (p x) (position_or_len p xs) i (λ t. only zero x refl t) (alone p xs i v g h (λ j w k t. let e = only (suc j) w k t in omega arith))

position_is : {A : Type 0} (p : A → Bool) (xs : List A) (i n : ℕ) (b : Bool) → position_or_len p xs ≡ n → nat_lt n (length xs) ≡ b → n ≡ i → i < length xs → cond (nat_lt n (length xs)) (Some n) None ≡ Some i
position_is p xs i n true e f g lt = ap (λ b. cond b (Some n) None) f ∙ ap (λ n. let o : Option ℕ = Some n in o) g
position_is p xs i n false e f g lt = absurd (grind (arith, nat_tests))

position_alone : {A : Type 0} (p : A → Bool) (xs : List A) (i : ℕ) (v : A) → slice_get xs i ≡ Some v → p v ≡ true → ((j : ℕ) (w : A) → slice_get xs j ≡ Some w → p w ≡ true → j ≡ i) → position p xs ≡ Some i
position_alone p xs i v g h only = position_is p xs i (position_or_len p xs) (nat_lt (position_or_len p xs) (length xs)) refl refl (alone p xs i v g h only) (slice_get_within xs i v g)

found : (s : Scope) (name : Name) (bound : Bound) (i : ℕ) (v : Variable) → AreNamed s → slice_get s.variables i ≡ Some v → v.word ≡ name.word → same_bound v.bound bound ≡ true → variable bound s.variables name.word ≡ Some i
found s name bound i v named g e b =
    position_alone (is_called bound name.word) s.variables i v g (ap (λ x. x && same_bound v.bound bound) ((bytes_eq-Decides v.word name.word).1 e) ∙ b)
    (λ j w h t. named j i w v h g ((bytes_eq-Decides w.word name.word).0 (left (bytes_eq w.word name.word) (same_bound w.bound bound) t) ∙ sym e))

pub resolves : (s : Scope) (name : Name) (i : ℕ) (v : Variable) → AreNamed s → slice_get s.variables i ≡ Some v → v.word ≡ name.word → Resolves s name i v
unfolding who route
resolves s name i v named g e = record {
  neighbour = λ b. ap (λ o. who_by name.span.from o (meaning s.names name.word)) (found s name Neighbour i v named g e (ap (λ x. same_bound x Neighbour) b));
  route = λ b. ap (λ o. route_by name.span.from o) (found s name Route i v named g e (ap (λ x. same_bound x Route) b));
}

last_at : {A : Type 0} (xs : List A) (x : A) → slice_get (xs ++ x ∷ []) (length xs) ≡ Some x
last_at [] x = refl
last_at (y ∷ xs) x = last_at xs x

before_at : {A : Type 0} (xs : List A) (x : A) (n : ℕ) (y : A) → slice_get xs n ≡ Some y → slice_get (xs ++ x ∷ []) n ≡ Some y
before_at [] x n y h = cc
before_at (z ∷ xs) x zero y h = h
before_at (z ∷ xs) x (suc n) y h = before_at xs x n y h

self_bound : (bound : Bound) → same_bound bound bound ≡ true
self_bound Neighbour = refl
self_bound Route = refl

-- a variable that is bound is the only one with its name, and the last
is_last : (s : Scope) (name called : Name) (bound : Bound) → new_variable s name ≡ Ok called → variable bound (bind s bound called).variables name.word ≡ Some (length s.variables)
unfolding new_variable
is_last s name called bound h =
    let p = passed (is_fresh s name.word) name.span.from name called h in
    let fresh = not_true (list_any (λ (v : Variable). bytes_eq v.word name.word) s.variables) (right (is_none (meaning s.names name.word)) (not (list_any (λ (v : Variable). bytes_eq v.word name.word) s.variables)) p.0) in
    let v : Variable = record { word = called.word; bound = bound } in
    let e : called.word ≡ name.word = sym (ap (λ (n : Name). n.word) p.1) in
    position_alone (is_called bound name.word) (s.variables ++ v ∷ []) (length s.variables) v (last_at s.variables v)
    (both (bytes_eq called.word name.word) (same_bound bound bound) ((bytes_eq-Decides called.word name.word).1 e) (self_bound bound))
    (λ j w g t. elim (got s.variables v j w g) [
      | inl q ↦ absurd (none_like (λ (v : Variable). bytes_eq v.word name.word) s.variables j w fresh q (left (bytes_eq w.word name.word) (same_bound w.bound bound) t))
      | inr q ↦ q.0
    ])

pub is_next : (s : Scope) (name called : Name) → new_variable s name ≡ Ok called → IsNext s name called
unfolding who route
is_next s name called h =
    let v : Bound → Variable = λ bound. record { word = called.word; bound = bound } in
    record {
      neighbour = ap (λ o. who_by name.span.from o (meaning s.names name.word)) (is_last s name called Neighbour h);
      route = ap (λ o. route_by name.span.from o) (is_last s name called Route h);
      others = λ bound i w g. before_at s.variables (v bound) i w g;
    }
