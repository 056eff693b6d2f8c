-- What each construct means.
use Rattle.std.proofs.Common.{◌≡◌, ℕ, ◌<◌, ◌≤◌, Bool, true, false, ◌||◌, ◌==◌, nat_lt, nat_le, not, List, [], ◌∷◌, ◌++◌, map, length, slice_get, ◌⊎◌, inl, inr, Option, Some, None, is_some, refl, ap, sym, subst, ◌∙◌, arith}
use Rattle.std.specs.Bool.{Decides}
use Rattle.std.specs.List.{list_all, list_any, All, Any}
use Rattle.std.proofs.lemmas.List.Folds.{Any-from_list_any, list_any-from_Any}
use Rattle.std.proofs.lemmas.Bool.Decides.{nat_tests, Decides-at, Decides-by_and, Decides-and, Decides-eqb, Decides-ltb}
use Rattle.nr_prefix.specs.declared.set.Pattern.{Pattern}
use Rattle.nr_prefix.specs.Views.{pattern_of}
use Rattle.nr_spec_bgp.specs.Prefixes.{Cidr, front, is_in}
use Rattle.nr_spec_bgp.specs.Prefixes as prefixes
use Rattle.nr_spec_bgp.specs.Paths.{Segment, path_len, first_as, last_as}
use Rattle.nr_spec_bgp.specs.Paths as paths
use Rattle.nr_spec_bgp.specs.Attributes.{AttributeBlock, origin_of, next_hop_of, med_of, pref_of, path_of, communities_of, has_community}
use Rattle.nr_rule_syntax.specs.declared.tree.Side.{Side}
use Rattle.nr_rule_syntax.specs.declared.tree.Side.TheVariants.{Sent, Received}
use Rattle.nr_rule_syntax.specs.declared.tree.Cmp.{Cmp}
use Rattle.nr_rule_syntax.specs.declared.tree.Cmp.TheVariants as cmps
use Rattle.nr_spec_typing.specs.declared.text.Neighbour.{Neighbour}
use Rattle.nr_spec_typing.specs.declared.tree.Who.{Who}
use Rattle.nr_spec_typing.specs.declared.tree.Who.TheVariants.{Var, Named}
use Rattle.nr_spec_typing.specs.declared.tree.Value.{Value}
use Rattle.nr_spec_typing.specs.declared.tree.Value.TheVariants as values
use Rattle.nr_spec_typing.specs.declared.tree.Typing.{Typing, map-Typing, roll-Typing, fold-roll-Typing}
use Rattle.nr_spec_typing.specs.declared.tree.Typing.TheOpen.{Typing-F}
use Rattle.nr_spec_typing.specs.declared.tree.Typing.TheVariants.{rolls-True, rolls-False, rolls-Not, rolls-And, rolls-Or, rolls-Implies, rolls-All, rolls-Some, rolls-If, rolls-Stands, rolls-Has, rolls-Crosses, rolls-Is, rolls-PrefixIn, rolls-Compare}
use Rattle.nr_spec_typing.specs.declared.tree.Typing.TheVariants as t
use Rattle.nr_spec_typing.specs.Meaning.{Scene, Thing, neighbour, route, route_in, neighbour_in, who_of, route_of, route_at, asn_in, asn_of, number, compares, Holding, with_route, of_neighbour, holds_step, holds_where}
use Rattle.nr_laws_meaning.specs.Words.{Place, truth, Holds, Means, next, inside, Names, StandsFor, Answer, Counts}
use Rattle.nr_laws_meaning.specs.Laws.{Connectives, Groups, Either, Routes, OfRoute, Asked, AskedOf, Neighbours, Fits, Prefixes, Comparisons}

-- ---- what a construct is by the definition

abbrev step : Place → Typing-F Typing → Bool
step at layer = holds_step at.neighbours at.scene (map-Typing Typing Holding (holds_where at.neighbours at.scene) layer) at.things

said : (at : Place) (layer : Typing-F Typing) (f : Typing) → roll-Typing layer ≡ f → truth at f ≡ step at layer
said at layer f e =
    ap (λ f. holds_where at.neighbours at.scene f at.things) (sym e)
    ∙ ap (λ (h : Holding). h at.things) (fold-roll-Typing Holding (holds_step at.neighbours at.scene) layer)

-- ---- tests

same : (b : Bool) → Decides b (b ≡ true)
same b = (λ h. h, λ h. h)

not_decides : (b : Bool) → Decides (not b) (b ≡ true → ⊥)
not_decides true = (λ h. cc, λ h. absurd (h refl))
not_decides false = (λ h k. cc, λ h. refl)

implies_decides : (a b : Bool) → Decides (not a || b) (a ≡ true → b ≡ true)
implies_decides true b = (λ h k. h, λ h. h refl)
implies_decides false b = (λ h k. cc, λ h. refl)

and_decides : (h : Typing → Holding) (things : List Thing) (fs : List Typing) → Decides (list_all (λ m. m things) (map h fs)) (All (λ f. h f things ≡ true) fs)
and_decides h things fs = Decides-by_and (λ f. h f things) (λ f. h f things ≡ true) (λ fs. list_all (λ m. m things) (map h fs)) (λ f. same (h f things)) refl (λ f fs. refl) fs

any_map : {A B : Type 0} (p : B → Bool) (h : A → B) (xs : List A) → list_any p (map h xs) ≡ list_any (λ x. p (h x)) xs
any_map p h [] = refl
any_map p h (x ∷ xs) = ap (λ b. p (h x) || b) (any_map p h xs)

any_decides : {A : Type 0} (p : A → Bool) (P : A → Type 0) → ((x : A) → Decides (p x) (P x)) → (xs : List A) → Decides (list_any p xs) (Any P xs)
any_decides p P each xs = (
  λ h. let q = Any-from_list_any p xs h in (q.0, q.1, q.2, q.3, (each q.1).0 q.4),
  λ q. list_any-from_Any p xs (q.0, q.1, q.2, q.3, (each q.1).1 q.4),
)

all_decides : {A : Type 0} (p : A → Bool) (xs : List A) → Decides (list_all p xs) (All (λ x. p x ≡ true) xs)
all_decides p xs = Decides-by_and p (λ x. p x ≡ true) (list_all p) (λ x. same (p x)) refl (λ x xs. refl) xs

-- ---- connectives

one_or : (b : Bool) → b ≡ b || false
one_or true = refl
one_or false = refl

implies_is_or : (at : Place) (f g : Typing) → truth at (t.Implies f g) ≡ truth at (t.Or (t.Not f ∷ g ∷ []))
implies_is_or at f g =
    said at (Typing-F.Implies f g) (t.Implies f g) (rolls-Implies f g)
    ∙ ap (λ b. not (truth at f) || b) (one_or (truth at g))
    ∙ ap (λ b. b || (truth at g || false)) (sym (said at (Typing-F.Not f) (t.Not f) (rolls-Not f)))
    ∙ sym (said at (Typing-F.Or (t.Not f ∷ g ∷ [])) (t.Or (t.Not f ∷ g ∷ [])) (rolls-Or (t.Not f ∷ g ∷ [])))

never : (b : Bool) → b ≡ false → b ≡ true → ⊥
never b e h = cc

not_means : (at : Place) (f : Typing) → Means at (t.Not f) (Holds at f → ⊥)
not_means at f = Decides-at (truth at (t.Not f)) (not (truth at f)) (said at (Typing-F.Not f) (t.Not f) (rolls-Not f)) (not_decides (truth at f))

pub connectives : (at : Place) → Connectives at
connectives at = record {
  always = said at Typing-F.True t.True rolls-True;
  never = never (truth at t.False) (said at Typing-F.False t.False rolls-False);
  not_ = not_means at;
  and_ = λ fs. Decides-at (truth at (t.And fs)) (step at (Typing-F.And fs)) (said at (Typing-F.And fs) (t.And fs) (rolls-And fs))
      (and_decides (holds_where at.neighbours at.scene) at.things fs);
  or_ = λ fs. Decides-at (truth at (t.Or fs)) (list_any (λ f. truth at f) fs)
      (said at (Typing-F.Or fs) (t.Or fs) (rolls-Or fs) ∙ any_map (λ (m : Holding). m at.things) (holds_where at.neighbours at.scene) fs)
      (any_decides (λ f. truth at f) (λ f. Holds at f) (λ f. same (truth at f)) fs);
  implies_ = λ f g. Decides-at (truth at (t.Implies f g)) (not (truth at f) || truth at g) (said at (Typing-F.Implies f g) (t.Implies f g) (rolls-Implies f g))
      (implies_decides (truth at f) (truth at g));
  implies_is_or = implies_is_or at;
}

-- ---- groups

pub groups : (at : Place) (group : List ℕ) (f : Typing) → Groups at group f
groups at group f = record {
  all_ = Decides-at (truth at (t.All (next at) group f)) (step at (Typing-F.All (next at) group f)) (said at (Typing-F.All (next at) group f) (t.All (next at) group f) (rolls-All (next at) group f))
      (all_decides (λ n. truth (inside at (neighbour n)) f) group);
  some_ = Decides-at (truth at (t.Some (next at) group f)) (step at (Typing-F.Some (next at) group f)) (said at (Typing-F.Some (next at) group f) (t.Some (next at) group f) (rolls-Some (next at) group f))
      (any_decides (λ n. truth (inside at (neighbour n)) f) (λ n. Holds (inside at (neighbour n)) f) (λ n. same (truth (inside at (neighbour n)) f)) group);
}

-- ---- routes

names : (at : Place) (of : Who) (n : ℕ) → Names at of n → who_of at.things of ≡ n
names at (Var v) n h = ap neighbour_in h
names at (Named m) n h = h

stands : (found : Option AttributeBlock) → Decides (is_some found) ((r : AttributeBlock) × (found ≡ Some r))
stands (Some r) = (λ h. (r, refl), λ h. refl)
stands None = (λ h. cc, λ h. let e : None ≡ Some h.0 = h.1 in cc)

stands_means : (at : Place) (side : Side) (of : Who) (n : ℕ) → Names at of n → Means at (t.Stands side of) ((r : AttributeBlock) × (route_in at.scene side n ≡ Some r))
stands_means at side of n h = Decides-at (truth at (t.Stands side of)) (is_some (route_in at.scene side n))
    (said at (Typing-F.Stands side of) (t.Stands side of) (rolls-Stands side of) ∙ ap (λ n. is_some (route_in at.scene side n)) (names at of n h))
    (stands (route_in at.scene side n))

abbrev way : Place → Typing → Holding
way at f = holds_where at.neighbours at.scene f

if_said : (at : Place) (side : Side) (of : Who) (n : ℕ) (f g : Typing) → Names at of n
    → truth at (t.If (next at) side of f g) ≡ with_route (route_in at.scene side n) (way at f) (way at g) at.things
if_said at side of n f g h =
    said at (Typing-F.If (next at) side of f g) (t.If (next at) side of f g) (rolls-If (next at) side of f g)
    ∙ ap (λ n. with_route (route_in at.scene side n) (way at f) (way at g) at.things) (names at of n h)

if_either : (at : Place) (side : Side) (of : Who) (n : ℕ) → Names at of n → (f g : Typing) → Either at (route_in at.scene side n) (t.If (next at) side of f g) f g
if_either at side of n h f g = record {
  with_one = λ r e. if_said at side of n f g h ∙ ap (λ found. with_route found (way at f) (way at g) at.things) e;
  with_none = λ e. if_said at side of n f g h ∙ ap (λ found. with_route found (way at f) (way at g) at.things) e;
}

pub routes : (at : Place) (of : Who) (n : ℕ) → Names at of n → Routes at of n
routes at of n h = record {
  sent = stands_means at Sent of n h;
  received = stands_means at Received of n h;
  if_sent = if_either at Sent of n h;
  if_received = if_either at Received of n h;
}

-- ---- terms

answer : (at : Place) (v : ℕ) (question : AttributeBlock → ℕ) (k : ℕ) → Answer at v question k → question (route_at at.things v) ≡ k
answer at v question k a = ap (λ x. question (route_of x)) a.1 ∙ a.2

pub counts : (at : Place) (term : Value) (k : ℕ) → Counts at term k → number at.neighbours at.scene at.things term ≡ k
counts at (values.Number n) k h = h
counts at values.Bits k h = h
counts at (values.Length v) k h = answer at v (λ r. path_len (path_of r)) k h
counts at (values.Med v) k h = answer at v med_of k h
counts at (values.Pref v) k h = answer at v pref_of k h
counts at (values.Origin v) k h = answer at v origin_of k h
counts at (values.First v) k h = answer at v (λ r. first_as (path_of r)) k h
counts at (values.Last v) k h = answer at v (λ r. last_as (path_of r)) k h
counts at (values.Hop v) k h = answer at v next_hop_of k h
counts at (values.Asn of) k h =
    ap (λ n. asn_of at.neighbours n) (names at of h.0 h.1) ∙ ap asn_in h.2.1 ∙ h.2.2

-- ---- comparisons

compared : (at : Place) (a b : Value) (n m : ℕ) (op : Cmp) → Counts at a n → Counts at b m → truth at (t.Compare a op b) ≡ compares n op m
compared at a b n m op h k =
    said at (Typing-F.Compare a op b) (t.Compare a op b) (rolls-Compare a op b)
    ∙ ap (λ n. compares n op (number at.neighbours at.scene at.things b)) (counts at a n h)
    ∙ ap (λ m. compares n op m) (counts at b m k)

less_means : (at : Place) (a b : Value) (n m : ℕ) → Counts at a n → Counts at b m → Means at (t.Compare a cmps.Lt b) (n < m)
less_means at a b n m h k = Decides-at (truth at (t.Compare a cmps.Lt b)) (nat_lt n m) (compared at a b n m cmps.Lt h k) (Decides-ltb n m)

equal_means : (at : Place) (a b : Value) (n m : ℕ) → Counts at a n → Counts at b m → Means at (t.Compare a cmps.Eq b) (n ≡ m)
equal_means at a b n m h k = Decides-at (truth at (t.Compare a cmps.Eq b)) (n == m) (compared at a b n m cmps.Eq h k) (Decides-eqb n m)

greater_means : (at : Place) (a b : Value) (n m : ℕ) → Counts at a n → Counts at b m → Means at (t.Compare a cmps.Gt b) (m < n)
greater_means at a b n m h k = Decides-at (truth at (t.Compare a cmps.Gt b)) (nat_lt m n) (compared at a b n m cmps.Gt h k) (Decides-ltb m n)

three_ways : (n m : ℕ) (b c : Bool) → nat_lt n m ≡ b → (n == m) ≡ c → (n < m) ⊎ ((n ≡ m) ⊎ (m < n))
three_ways n m true c e f = inl ((Decides-ltb n m).0 e)
three_ways n m false true e f = inr (inl ((Decides-eqb n m).0 f))
three_ways n m false false e f = inr (inr (grind (arith, nat_tests)))

trichotomy : (n m : ℕ) → (n < m) ⊎ ((n ≡ m) ⊎ (m < n))
trichotomy n m = three_ways n m (nat_lt n m) (n == m) refl refl

one_of : (at : Place) (a b : Value) (n m : ℕ) → Counts at a n → Counts at b m
    → (n < m) ⊎ ((n ≡ m) ⊎ (m < n)) → Holds at (t.Compare a cmps.Lt b) ⊎ (Holds at (t.Compare a cmps.Eq b) ⊎ Holds at (t.Compare a cmps.Gt b))
one_of at a b n m h k (inl x) = inl ((less_means at a b n m h k).1 x)
one_of at a b n m h k (inr (inl x)) = inr (inl ((equal_means at a b n m h k).1 x))
one_of at a b n m h k (inr (inr x)) = inr (inr ((greater_means at a b n m h k).1 x))

negated : (at : Place) (f g : Typing) (x y : Bool) → truth at f ≡ x → truth at g ≡ y → y ≡ not x → truth at g ≡ truth at (t.Not f)
negated at f g x y e d z = d ∙ z ∙ ap not (sym e) ∙ sym (said at (Typing-F.Not f) (t.Not f) (rolls-Not f))

le_not_gt : (n m : ℕ) → nat_le n m ≡ not (nat_lt m n)
le_not_gt n m = grind (arith, nat_tests)

pub comparisons : (at : Place) (a b : Value) (n m : ℕ) → Counts at a n → Counts at b m → Comparisons at a b n m
comparisons at a b n m h k = record {
  less = less_means at a b n m h k;
  equal = equal_means at a b n m h k;
  greater = greater_means at a b n m h k;
  one = one_of at a b n m h k (trichotomy n m);
  less_or_equal = λ x y. let p : n < m = (less_means at a b n m h k).0 x in let q : n ≡ m = (equal_means at a b n m h k).0 y in omega arith;
  less_or_greater = λ x y. let p : n < m = (less_means at a b n m h k).0 x in let q : m < n = (greater_means at a b n m h k).0 y in omega arith;
  equal_or_greater = λ x y. let p : n ≡ m = (equal_means at a b n m h k).0 x in let q : m < n = (greater_means at a b n m h k).0 y in omega arith;
  not_equal = negated at (t.Compare a cmps.Eq b) (t.Compare a cmps.Ne b) (n == m) (not (n == m)) (compared at a b n m cmps.Eq h k) (compared at a b n m cmps.Ne h k) refl;
  not_less = negated at (t.Compare a cmps.Lt b) (t.Compare a cmps.Ge b) (nat_lt n m) (nat_le m n) (compared at a b n m cmps.Lt h k) (compared at a b n m cmps.Ge h k) (le_not_gt m n);
  not_greater = negated at (t.Compare a cmps.Gt b) (t.Compare a cmps.Le b) (nat_lt m n) (nat_le n m) (compared at a b n m cmps.Gt h k) (compared at a b n m cmps.Le h k) (le_not_gt n m);
}

-- ---- questions on a route

has_decides : (c : ℕ) (r : AttributeBlock) → Decides (has_community c r) (Any (λ d. d ≡ c) (communities_of r))
has_decides c r = any_decides (λ d. d == c) (λ d. d ≡ c) (λ d. Decides-eqb d c) (communities_of r)

crosses_decides : (k : ℕ) (path : List Segment) → Decides (paths.crosses k path) (Any (λ s. Any (λ n. n ≡ k) s.numbers) path)
crosses_decides k path = any_decides (λ (s : Segment). list_any (λ n. n == k) s.numbers) (λ s. Any (λ n. n ≡ k) s.numbers)
    (λ s. any_decides (λ n. n == k) (λ n. n ≡ k) (λ n. Decides-eqb n k) s.numbers) path

pub of_route : (at : Place) (v : ℕ) (r : AttributeBlock) → StandsFor at v r → OfRoute at v r
of_route at v r h = record {
  has = λ c. Decides-at (truth at (t.Has v c)) (has_community c r)
      (said at (Typing-F.Has v c) (t.Has v c) (rolls-Has v c) ∙ ap (λ x. has_community c (route_of x)) h) (has_decides c r);
  crosses = λ term k q. Decides-at (truth at (t.Crosses v term)) (paths.crosses k (path_of r))
      (said at (Typing-F.Crosses v term) (t.Crosses v term) (rolls-Crosses v term)
      ∙ ap (λ k. paths.crosses k (path_of (route_at at.things v))) (counts at term k q)
      ∙ ap (λ x. paths.crosses k (path_of (route_of x))) h)
      (crosses_decides k (path_of r));
}

-- ---- neighbours and prefixes

pub neighbours : (at : Place) (one other : Who) (n m : ℕ) → Names at one n → Names at other m → Neighbours at one other n m
neighbours at one other n m h k = record {
  is_ = Decides-at (truth at (t.Is one other)) (n == m)
      (said at (Typing-F.Is one other) (t.Is one other) (rolls-Is one other)
      ∙ ap (λ n. n == who_of at.things other) (names at one n h) ∙ ap (λ m. n == m) (names at other m k))
      (Decides-eqb n m);
  asn = λ x k e. equal_means at (values.Asn one) (values.Number k) x.asn k (n, h, (x, e, refl)) refl;
}

decides_le : (n m : ℕ) → Decides (nat_le n m) (n ≤ m)
decides_le n m = (λ h. grind (arith, nat_tests), λ h. grind (arith, nat_tests))

fits_decides : (p : Cidr) (w : Pattern) → Decides (prefixes.fits p (pattern_of w)) (Fits p w)
fits_decides p w =
    let d = Decides-and (prefixes.covers w.prefix p) (nat_le p.len w.most)
    (Decides-and (nat_le w.prefix.len p.len) (front p.addr w.prefix.len == front w.prefix.addr w.prefix.len)
    (decides_le w.prefix.len p.len) (Decides-eqb (front p.addr w.prefix.len) (front w.prefix.addr w.prefix.len)))
    (decides_le p.len w.most) in
    (λ h. let f = d.0 h in record { least = f.0.0; most = f.1; bits = f.0.1 }, λ f. d.1 ((f.least, f.bits), f.most))

pub prefixes_law : (at : Place) → Prefixes at
prefixes_law at = record {
  prefix_in = λ patterns. Decides-at (truth at (t.PrefixIn patterns)) (list_any (λ w. prefixes.fits at.scene.prefix (pattern_of w)) patterns)
      (said at (Typing-F.PrefixIn patterns) (t.PrefixIn patterns) (rolls-PrefixIn patterns) ∙ any_map (prefixes.fits at.scene.prefix) pattern_of patterns)
      (any_decides (λ w. prefixes.fits at.scene.prefix (pattern_of w)) (λ w. Fits at.scene.prefix w) (fits_decides at.scene.prefix) patterns);
  bits = λ k. equal_means at values.Bits (values.Number k) at.scene.prefix.len k refl refl;
}

-- ---- what an `if` asks of its route

last_one : (things : List Thing) (x : Thing) → slice_get (things ++ x ∷ []) (length things) ≡ Some x
last_one [] x = refl
last_one (y ∷ things) x = last_one things x

asked_by : (found : Option AttributeBlock) (f g : Holding) (things : List Thing) (P : AttributeBlock → Type 0)
    → ((r : AttributeBlock) → Decides (f (things ++ route r ∷ [])) (P r)) → g things ≡ false
    → Decides (with_route found f g things) ((r : AttributeBlock) × (found ≡ Some r) × P r)
asked_by (Some r) f g things P each e = (λ h. (r, refl, (each r).0 h), λ q. let same : r ≡ q.0 = cc in (each r).1 (subst P (sym same) q.2))
asked_by None f g things P each e = (λ h. cc, λ q. let none : None ≡ Some q.0 = q.1 in cc)

asks : (at : Place) (side : Side) (of : Who) (n : ℕ) (f : Typing) (P : AttributeBlock → Type 0) → Names at of n
    → ((r : AttributeBlock) → StandsFor (inside at (route r)) (next at) r → Means (inside at (route r)) f (P r))
    → Means at (t.If (next at) side of f t.False) ((r : AttributeBlock) × (route_in at.scene side n ≡ Some r) × P r)
asks at side of n f P h each = Decides-at (truth at (t.If (next at) side of f t.False)) (with_route (route_in at.scene side n) (way at f) (way at t.False) at.things)
    (if_said at side of n f t.False h)
    (asked_by (route_in at.scene side n) (way at f) (way at t.False) at.things P (λ r. each r (last_one at.things (route r))) (said at Typing-F.False t.False rolls-False))

asked : (at : Place) (side : Side) (of : Who) (n : ℕ) → Names at of n → Asked at side of (route_in at.scene side n)
asked at side of n h = record {
  has = λ c. asks at side of n (t.Has (next at) c) (λ r. Any (λ d. d ≡ c) (communities_of r)) h (λ r s. (of_route (inside at (route r)) (next at) r s).has c);
  crosses = λ k. asks at side of n (t.Crosses (next at) (values.Number k)) (λ r. Any (λ s. Any (λ n. n ≡ k) s.numbers) (path_of r)) h
      (λ r s. (of_route (inside at (route r)) (next at) r s).crosses (values.Number k) k refl);
  length_ = λ k. asks at side of n (t.Compare (values.Length (next at)) cmps.Eq (values.Number k)) (λ r. path_len (path_of r) ≡ k) h
      (λ r s. equal_means (inside at (route r)) (values.Length (next at)) (values.Number k) (path_len (path_of r)) k (r, s, refl) refl);
  med = λ k. asks at side of n (t.Compare (values.Med (next at)) cmps.Eq (values.Number k)) (λ r. med_of r ≡ k) h
      (λ r s. equal_means (inside at (route r)) (values.Med (next at)) (values.Number k) (med_of r) k (r, s, refl) refl);
  pref = λ k. asks at side of n (t.Compare (values.Pref (next at)) cmps.Eq (values.Number k)) (λ r. pref_of r ≡ k) h
      (λ r s. equal_means (inside at (route r)) (values.Pref (next at)) (values.Number k) (pref_of r) k (r, s, refl) refl);
  origin = λ k. asks at side of n (t.Compare (values.Origin (next at)) cmps.Eq (values.Number k)) (λ r. origin_of r ≡ k) h
      (λ r s. equal_means (inside at (route r)) (values.Origin (next at)) (values.Number k) (origin_of r) k (r, s, refl) refl);
  first = λ k. asks at side of n (t.Compare (values.First (next at)) cmps.Eq (values.Number k)) (λ r. first_as (path_of r) ≡ k) h
      (λ r s. equal_means (inside at (route r)) (values.First (next at)) (values.Number k) (first_as (path_of r)) k (r, s, refl) refl);
  last = λ k. asks at side of n (t.Compare (values.Last (next at)) cmps.Eq (values.Number k)) (λ r. last_as (path_of r) ≡ k) h
      (λ r s. equal_means (inside at (route r)) (values.Last (next at)) (values.Number k) (last_as (path_of r)) k (r, s, refl) refl);
  hop = λ k. asks at side of n (t.Compare (values.Hop (next at)) cmps.Eq (values.Number k)) (λ r. next_hop_of r ≡ k) h
      (λ r s. equal_means (inside at (route r)) (values.Hop (next at)) (values.Number k) (next_hop_of r) k (r, s, refl) refl);
}

pub asked_of : (at : Place) (of : Who) (n : ℕ) → Names at of n → AskedOf at of n
asked_of at of n h = record { sent = asked at Sent of n h; received = asked at Received of n h }

-- ---- each construct by its parts, for written-out formulas

abbrev here : List Neighbour → Scene → List Thing → Place
here ns scene things = record { neighbours = ns; scene = scene; things = things }

pub eq-True : (ns : List Neighbour) (scene : Scene) (things : List Thing) → holds_where ns scene t.True things ≡ true
eq-True ns scene things = said (here ns scene things) Typing-F.True t.True rolls-True

pub eq-False : (ns : List Neighbour) (scene : Scene) (things : List Thing) → holds_where ns scene t.False things ≡ false
eq-False ns scene things = said (here ns scene things) Typing-F.False t.False rolls-False

pub eq-Not : (ns : List Neighbour) (scene : Scene) (f : Typing) (things : List Thing) → holds_where ns scene (t.Not f) things ≡ not (holds_where ns scene f things)
eq-Not ns scene f things = said (here ns scene things) (Typing-F.Not f) (t.Not f) (rolls-Not f)

pub eq-And : (ns : List Neighbour) (scene : Scene) (fs : List Typing) (things : List Thing)
    → holds_where ns scene (t.And fs) things ≡ list_all (λ m. m things) (map (holds_where ns scene) fs)
eq-And ns scene fs things = said (here ns scene things) (Typing-F.And fs) (t.And fs) (rolls-And fs)

pub eq-Or : (ns : List Neighbour) (scene : Scene) (fs : List Typing) (things : List Thing)
    → holds_where ns scene (t.Or fs) things ≡ list_any (λ m. m things) (map (holds_where ns scene) fs)
eq-Or ns scene fs things = said (here ns scene things) (Typing-F.Or fs) (t.Or fs) (rolls-Or fs)

pub eq-Is : (ns : List Neighbour) (scene : Scene) (left right : Who) (things : List Thing)
    → holds_where ns scene (t.Is left right) things ≡ (who_of things left == who_of things right)
eq-Is ns scene left right things = said (here ns scene things) (Typing-F.Is left right) (t.Is left right) (rolls-Is left right)

pub eq-Compare : (ns : List Neighbour) (scene : Scene) (left : Value) (op : Cmp) (right : Value) (things : List Thing)
    → holds_where ns scene (t.Compare left op right) things ≡ compares (number ns scene things left) op (number ns scene things right)
eq-Compare ns scene left op right things = said (here ns scene things) (Typing-F.Compare left op right) (t.Compare left op right) (rolls-Compare left op right)

pub eq-Implies : (ns : List Neighbour) (scene : Scene) (f g : Typing) (things : List Thing)
    → holds_where ns scene (t.Implies f g) things ≡ not (holds_where ns scene f things) || holds_where ns scene g things
eq-Implies ns scene f g things = said (here ns scene things) (Typing-F.Implies f g) (t.Implies f g) (rolls-Implies f g)

pub eq-All : (ns : List Neighbour) (scene : Scene) (var : ℕ) (group : List ℕ) (f : Typing) (things : List Thing)
    → holds_where ns scene (t.All var group f) things ≡ list_all (of_neighbour (holds_where ns scene f) things) group
eq-All ns scene var group f things = said (here ns scene things) (Typing-F.All var group f) (t.All var group f) (rolls-All var group f)

pub eq-Some : (ns : List Neighbour) (scene : Scene) (var : ℕ) (group : List ℕ) (f : Typing) (things : List Thing)
    → holds_where ns scene (t.Some var group f) things ≡ list_any (of_neighbour (holds_where ns scene f) things) group
eq-Some ns scene var group f things = said (here ns scene things) (Typing-F.Some var group f) (t.Some var group f) (rolls-Some var group f)

pub eq-If : (ns : List Neighbour) (scene : Scene) (var : ℕ) (side : Side) (of : Who) (f g : Typing) (things : List Thing)
    → holds_where ns scene (t.If var side of f g) things ≡ with_route (route_in scene side (who_of things of)) (holds_where ns scene f) (holds_where ns scene g) things
eq-If ns scene var side of f g things = said (here ns scene things) (Typing-F.If var side of f g) (t.If var side of f g) (rolls-If var side of f g)

pub eq-Stands : (ns : List Neighbour) (scene : Scene) (side : Side) (of : Who) (things : List Thing)
    → holds_where ns scene (t.Stands side of) things ≡ is_some (route_in scene side (who_of things of))
eq-Stands ns scene side of things = said (here ns scene things) (Typing-F.Stands side of) (t.Stands side of) (rolls-Stands side of)

pub eq-Has : (ns : List Neighbour) (scene : Scene) (v c : ℕ) (things : List Thing) → holds_where ns scene (t.Has v c) things ≡ has_community c (route_at things v)
eq-Has ns scene v c things = said (here ns scene things) (Typing-F.Has v c) (t.Has v c) (rolls-Has v c)

pub eq-Crosses : (ns : List Neighbour) (scene : Scene) (v : ℕ) (term : Value) (things : List Thing)
    → holds_where ns scene (t.Crosses v term) things ≡ paths.crosses (number ns scene things term) (path_of (route_at things v))
eq-Crosses ns scene v term things = said (here ns scene things) (Typing-F.Crosses v term) (t.Crosses v term) (rolls-Crosses v term)

pub eq-PrefixIn : (ns : List Neighbour) (scene : Scene) (patterns : List Pattern) (things : List Thing)
    → holds_where ns scene (t.PrefixIn patterns) things ≡ is_in (map pattern_of patterns) scene.prefix
eq-PrefixIn ns scene patterns things = said (here ns scene things) (Typing-F.PrefixIn patterns) (t.PrefixIn patterns) (rolls-PrefixIn patterns)
