-- A formula that fits its place asks for nothing that is missing.
use Rattle.std.proofs.Common.{◌≡◌, ℕ, zero, suc, ◌<◌, Bool, true, false, ◌&&◌, ◌||◌, ◌==◌, nat_lt, not, List, [], ◌∷◌, ◌++◌, map, length, slice_get, Option, Some, None, is_some, refl, ap, sym, subst, ◌∙◌, arith}
use Rattle.std.specs.List.{list_all, list_any, All}
use Rattle.std.proofs.lemmas.Bool.Decides.{nat_tests}
use Rattle.std.proofs.lemmas.List.{map-append}
use Rattle.nr_spec_bgp.specs.Paths.{path_len, first_as, last_as}
use Rattle.nr_spec_bgp.specs.Paths as paths
use Rattle.nr_spec_bgp.specs.Attributes.{AttributeBlock, origin_of, next_hop_of, med_of, pref_of, path_of, has_community}
use Rattle.nr_spec_typing.specs.declared.name.Bound.TheVariants.{Neighbour, Route}
use Rattle.nr_spec_typing.specs.declared.text.Neighbour as text
use Rattle.nr_spec_typing.specs.declared.tree.Who.{Who}
use Rattle.nr_spec_typing.specs.declared.tree.Who.TheVariants.{Var, Named}
use Rattle.nr_spec_typing.specs.declared.tree.Value.{Value}
use Rattle.nr_spec_typing.specs.declared.tree.Value.TheVariants as values
use Rattle.nr_spec_typing.specs.declared.tree.Typing.{Typing, map-Typing, roll-Typing, fold-roll-Typing, ind-Typing}
use Rattle.nr_spec_typing.specs.declared.tree.Typing.TheOpen.{Typing-F}
use Rattle.nr_spec_typing.specs.Guarantees.{is_variable, is_who, is_value, are_neighbours, is_next, Fitting, fits_step, fits, IsPromise, IsTyped}
use Rattle.nr_spec_typing.specs.declared.text.Promise.{Promise}
use Rattle.nr_spec_typing.specs.Declarations.{TypedText}
use Rattle.std.proofs.lemmas.List.Elements.{All-weaker}
use Rattle.nr_spec_typing.specs.Meaning.{Scene, Thing, neighbour, route, route_in, neighbour_in, who_of, route_of, route_at, asn_of, number, compares, Holding, with_route, of_neighbour, holds_step, holds_where, holds}
use Rattle.nr_laws_meaning.specs.StandIns.{StandIns, neighbour_or, who_or, route_or, route_at_or, asn_or, number_or, step_or, holds_or, kind_of, kinds, AreKnown}

left : (a b : Bool) → a && b ≡ true → a ≡ true
left true b h = refl
left false b h = cc

right : (a b : Bool) → a && b ≡ true → b ≡ true
right true b h = h
right false b h = cc

-- ---- variables

-- the neighbour that a variable stands for
neighbour_found : (count : ℕ) (things : List Thing) (v : ℕ) → AreKnown count things → is_variable Neighbour (kinds things) v ≡ true
    → (n : ℕ) × (slice_get things v ≡ Some (neighbour n)) × (n < count)
neighbour_found count [] v k h = cc
neighbour_found count (neighbour n ∷ things) zero k h = (n, refl, k.0)
neighbour_found count (route r ∷ things) zero k h = cc
neighbour_found count (neighbour n ∷ things) (suc v) k h = neighbour_found count things v k.1 h
neighbour_found count (route r ∷ things) (suc v) k h = neighbour_found count things v k h

route_found : (things : List Thing) (v : ℕ) → is_variable Route (kinds things) v ≡ true → (r : AttributeBlock) × (slice_get things v ≡ Some (route r))
route_found [] v h = cc
route_found (neighbour n ∷ things) zero h = cc
route_found (route r ∷ things) zero h = (r, refl)
route_found (neighbour n ∷ things) (suc v) h = route_found things v h
route_found (route r ∷ things) (suc v) h = route_found things v h

below : (n count : ℕ) → nat_lt n count ≡ true → n < count
below n count h = grind (arith, nat_tests)

-- who is meant, one of so many neighbours
who_settled : (m : StandIns) (count : ℕ) (things : List Thing) (of : Who) → AreKnown count things → is_who count (kinds things) of ≡ true
    → (who_or m things of ≡ who_of things of) × (who_of things of < count)
who_settled m count things (Named n) k h = (refl, below n count h)
who_settled m count things (Var v) k h =
    let q = neighbour_found count things v k h in
    subst (λ found. (neighbour_or m found ≡ neighbour_in found) × (neighbour_in found < count)) (sym q.1) (refl, q.2)

route_settled : (m : StandIns) (things : List Thing) (v : ℕ) → is_variable Route (kinds things) v ≡ true → route_at_or m things v ≡ route_at things v
route_settled m things v h = let q = route_found things v h in subst (λ found. route_or m found ≡ route_of found) (sym q.1) refl

asn_settled : (m : StandIns) (ns : List text.Neighbour) (n : ℕ) → n < length ns → asn_or m (slice_get ns n) ≡ asn_of ns n
asn_settled m [] n h = absurd (omega arith)
asn_settled m (x ∷ ns) zero h = refl
asn_settled m (x ∷ ns) (suc n) h = asn_settled m ns n (omega arith)

number_settled : (m : StandIns) (ns : List text.Neighbour) (scene : Scene) (things : List Thing) (term : Value) → AreKnown (length ns) things
    → is_value (length ns) (kinds things) term ≡ true → number_or m ns scene things term ≡ number ns scene things term
number_settled m ns scene things (values.Number n) k h = refl
number_settled m ns scene things values.Bits k h = refl
number_settled m ns scene things (values.Length v) k h = ap (λ r. path_len (path_of r)) (route_settled m things v h)
number_settled m ns scene things (values.Med v) k h = ap med_of (route_settled m things v h)
number_settled m ns scene things (values.Pref v) k h = ap pref_of (route_settled m things v h)
number_settled m ns scene things (values.Origin v) k h = ap origin_of (route_settled m things v h)
number_settled m ns scene things (values.First v) k h = ap (λ r. first_as (path_of r)) (route_settled m things v h)
number_settled m ns scene things (values.Last v) k h = ap (λ r. last_as (path_of r)) (route_settled m things v h)
number_settled m ns scene things (values.Hop v) k h = ap next_hop_of (route_settled m things v h)
number_settled m ns scene things (values.Asn of) k h =
    let w = who_settled m (length ns) things of k h in
    ap (λ n. asn_or m (slice_get ns n)) w.0 ∙ asn_settled m ns (who_of things of) w.1

-- ---- one more variable

kinds_more : (things : List Thing) (x : Thing) → kinds (things ++ x ∷ []) ≡ kinds things ++ kind_of x ∷ []
kinds_more things x = map-append kind_of things (x ∷ [])

known_more : (count : ℕ) (things : List Thing) (x : Thing) → AreKnown count things → AreKnown count (x ∷ []) → AreKnown count (things ++ x ∷ [])
known_more count [] x k h = h
known_more count (neighbour n ∷ things) x k h = (k.0, known_more count things x k.1 h)
known_more count (route r ∷ things) x k h = known_more count things x k h

-- ---- formulas

-- with any stand-ins the same, where it fits
abbrev pub AreSame : ℕ → Fitting → Holding → Holding → Type 0
AreSame count fit one other = (things : List Thing) → AreKnown count things → fit (kinds things) ≡ true → one things ≡ other things

-- in the scope of one more variable
same_inside : (count : ℕ) (fit : Fitting) (one other : Holding) (things : List Thing) (x : Thing) → AreSame count fit one other → AreKnown count things → AreKnown count (x ∷ [])
    → fit (kinds things ++ kind_of x ∷ []) ≡ true → one (things ++ x ∷ []) ≡ other (things ++ x ∷ [])
same_inside count fit one other things x s k l h = s (things ++ x ∷ []) (known_more count things x k l) (ap fit (kinds_more things x) ∙ h)

same_all : (count : ℕ) (fit : Fitting) (one other : Holding) (things : List Thing) (group : List ℕ) → AreSame count fit one other → AreKnown count things
    → are_neighbours count group ≡ true → fit (kinds things ++ Neighbour ∷ []) ≡ true → list_all (of_neighbour one things) group ≡ list_all (of_neighbour other things) group
same_all count fit one other things [] s k g h = refl
same_all count fit one other things (n ∷ group) s k g h =
    let lt = below n count (left (nat_lt n count) (are_neighbours count group) g) in
    let first = same_inside count fit one other things (neighbour n) s k (lt, tt) h in
    let others = same_all count fit one other things group s k (right (nat_lt n count) (are_neighbours count group) g) h in
    ap (λ b. b && list_all (of_neighbour one things) group) first ∙ ap (λ b. of_neighbour other things n && b) others

same_some : (count : ℕ) (fit : Fitting) (one other : Holding) (things : List Thing) (group : List ℕ) → AreSame count fit one other → AreKnown count things
    → are_neighbours count group ≡ true → fit (kinds things ++ Neighbour ∷ []) ≡ true → list_any (of_neighbour one things) group ≡ list_any (of_neighbour other things) group
same_some count fit one other things [] s k g h = refl
same_some count fit one other things (n ∷ group) s k g h =
    let lt = below n count (left (nat_lt n count) (are_neighbours count group) g) in
    let first = same_inside count fit one other things (neighbour n) s k (lt, tt) h in
    let others = same_some count fit one other things group s k (right (nat_lt n count) (are_neighbours count group) g) h in
    ap (λ b. b || list_any (of_neighbour one things) group) first ∙ ap (λ b. of_neighbour other things n || b) others

same_if : (count : ℕ) (fit_yes fit_no : Fitting) (one other one_no other_no : Holding) (things : List Thing) (found : Option AttributeBlock)
    → AreSame count fit_yes one other → AreSame count fit_no one_no other_no → AreKnown count things
    → fit_yes (kinds things ++ Route ∷ []) ≡ true → fit_no (kinds things) ≡ true → with_route found one one_no things ≡ with_route found other other_no things
same_if count fit_yes fit_no one other one_no other_no things (Some r) s u k h i = same_inside count fit_yes one other things (route r) s k tt h
same_if count fit_yes fit_no one other one_no other_no things None s u k h i = u things k i

-- ---- every formula

abbrev IsSettled : StandIns → List text.Neighbour → Scene → Typing → Type 0
IsSettled m ns scene form = AreSame (length ns) (fits (length ns) form) (holds_or m ns scene form) (holds_where ns scene form)

abbrev by_layer : StandIns → List text.Neighbour → Scene → Typing-F Typing → Type 0
by_layer m ns scene layer = AreSame (length ns) (fits_step (length ns) (map-Typing Typing Fitting (fits (length ns)) layer))
    (step_or m ns scene (map-Typing Typing Holding (holds_or m ns scene) layer)) (holds_step ns scene (map-Typing Typing Holding (holds_where ns scene) layer))

from_layer : (m : StandIns) (ns : List text.Neighbour) (scene : Scene) (layer : Typing-F Typing) → by_layer m ns scene layer → IsSettled m ns scene (roll-Typing layer)
from_layer m ns scene layer s things k h =
    ap (λ (f : Holding). f things) (fold-roll-Typing Holding (step_or m ns scene) layer)
    ∙ s things k (ap (λ (f : Fitting). f (kinds things)) (sym (fold-roll-Typing Fitting (fits_step (length ns)) layer)) ∙ h)
    ∙ ap (λ (f : Holding). f things) (sym (fold-roll-Typing Holding (holds_step ns scene) layer))

each_settled : {C : Type 0} (m : StandIns) (ns : List text.Neighbour) (scene : Scene) (form : C → Typing) → ((e : C) → IsSettled m ns scene (form e)) → (es : List C)
    → AreSame (length ns) (λ around. list_all (λ x. x around) (map (fits (length ns)) (map form es)))
    (λ things. list_all (λ x. x things) (map (holds_or m ns scene) (map form es))) (λ things. list_all (λ x. x things) (map (holds_where ns scene) (map form es)))
each_settled m ns scene form each [] things k h = refl
each_settled m ns scene form each (e ∷ es) things k h =
    let rest = list_all (λ (x : Fitting). x (kinds things)) (map (fits (length ns)) (map form es)) in
    let first = each e things k (left (fits (length ns) (form e) (kinds things)) rest h) in
    let others = each_settled m ns scene form each es things k (right (fits (length ns) (form e) (kinds things)) rest h) in
    ap (λ b. b && list_all (λ (x : Holding). x things) (map (holds_or m ns scene) (map form es))) first ∙ ap (λ b. holds_where ns scene (form e) things && b) others

any_settled : {C : Type 0} (m : StandIns) (ns : List text.Neighbour) (scene : Scene) (form : C → Typing) → ((e : C) → IsSettled m ns scene (form e)) → (es : List C)
    → AreSame (length ns) (λ around. list_all (λ x. x around) (map (fits (length ns)) (map form es)))
    (λ things. list_any (λ x. x things) (map (holds_or m ns scene) (map form es))) (λ things. list_any (λ x. x things) (map (holds_where ns scene) (map form es)))
any_settled m ns scene form each [] things k h = refl
any_settled m ns scene form each (e ∷ es) things k h =
    let rest = list_all (λ (x : Fitting). x (kinds things)) (map (fits (length ns)) (map form es)) in
    let first = each e things k (left (fits (length ns) (form e) (kinds things)) rest h) in
    let others = any_settled m ns scene form each es things k (right (fits (length ns) (form e) (kinds things)) rest h) in
    ap (λ b. b || list_any (λ (x : Holding). x things) (map (holds_or m ns scene) (map form es))) first ∙ ap (λ b. holds_where ns scene (form e) things || b) others

layer_settled : {C : Type 0} (m : StandIns) (ns : List text.Neighbour) (scene : Scene) (form : C → Typing) → ((e : C) → IsSettled m ns scene (form e)) → (y : Typing-F C)
    → IsSettled m ns scene (roll-Typing (map-Typing C Typing form y))
layer_settled m ns scene form each Typing-F.True = from_layer m ns scene Typing-F.True (λ things k h. refl)
layer_settled m ns scene form each Typing-F.False = from_layer m ns scene Typing-F.False (λ things k h. refl)
layer_settled m ns scene form each (Typing-F.Not e) = from_layer m ns scene (Typing-F.Not (form e)) (λ things k h. ap not (each e things k h))
layer_settled m ns scene form each (Typing-F.And es) = from_layer m ns scene (Typing-F.And (map form es))
    (each_settled m ns scene form each es)
layer_settled m ns scene form each (Typing-F.Or es) = from_layer m ns scene (Typing-F.Or (map form es))
    (any_settled m ns scene form each es)
layer_settled m ns scene form each (Typing-F.Implies e d) = from_layer m ns scene (Typing-F.Implies (form e) (form d))
    (λ things k h. ap (λ b. not b || holds_or m ns scene (form d) things) (each e things k (left (fits (length ns) (form e) (kinds things)) (fits (length ns) (form d) (kinds things)) h))
    ∙ ap (λ b. not (holds_where ns scene (form e) things) || b) (each d things k (right (fits (length ns) (form e) (kinds things)) (fits (length ns) (form d) (kinds things)) h)))
layer_settled m ns scene form each (Typing-F.All var group e) = from_layer m ns scene (Typing-F.All var group (form e))
    (λ things k h. let next = is_next (kinds things) var in let known = are_neighbours (length ns) group in let fit = fits (length ns) (form e) (kinds things ++ Neighbour ∷ []) in
    same_all (length ns) (fits (length ns) (form e)) (holds_or m ns scene (form e)) (holds_where ns scene (form e)) things group (each e) k (right next known (left (next && known) fit h)) (right (next && known) fit h))
layer_settled m ns scene form each (Typing-F.Some var group e) = from_layer m ns scene (Typing-F.Some var group (form e))
    (λ things k h. let next = is_next (kinds things) var in let known = are_neighbours (length ns) group in let fit = fits (length ns) (form e) (kinds things ++ Neighbour ∷ []) in
    same_some (length ns) (fits (length ns) (form e)) (holds_or m ns scene (form e)) (holds_where ns scene (form e)) things group (each e) k (right next known (left (next && known) fit h)) (right (next && known) fit h))
layer_settled m ns scene form each (Typing-F.If var side of e d) = from_layer m ns scene (Typing-F.If var side of (form e) (form d))
    (λ things k h. let next = is_next (kinds things) var in let who = is_who (length ns) (kinds things) of in let fit = fits (length ns) (form e) (kinds things ++ Route ∷ []) in let fit_no = fits (length ns) (form d) (kinds things) in
    let first = left (next && who && fit) fit_no h in
    ap (λ n. with_route (route_in scene side n) (holds_or m ns scene (form e)) (holds_or m ns scene (form d)) things) (who_settled m (length ns) things of k (right next who (left (next && who) fit first))).0
    ∙ same_if (length ns) (fits (length ns) (form e)) (fits (length ns) (form d)) (holds_or m ns scene (form e)) (holds_where ns scene (form e)) (holds_or m ns scene (form d)) (holds_where ns scene (form d)) things (route_in scene side (who_of things of)) (each e) (each d) k (right (next && who) fit first) (right (next && who && fit) fit_no h))
layer_settled m ns scene form each (Typing-F.Stands side of) = from_layer m ns scene (Typing-F.Stands side of) (λ things k h. ap (λ n. is_some (route_in scene side n)) (who_settled m (length ns) things of k h).0)
layer_settled m ns scene form each (Typing-F.Has v c) = from_layer m ns scene (Typing-F.Has v c) (λ things k h. ap (λ r. has_community c r) (route_settled m things v h))
layer_settled m ns scene form each (Typing-F.Crosses v term) = from_layer m ns scene (Typing-F.Crosses v term)
    (λ things k h. let a = is_variable Route (kinds things) v in let b = is_value (length ns) (kinds things) term in
    ap (λ n. paths.crosses n (path_of (route_at_or m things v))) (number_settled m ns scene things term k (right a b h))
    ∙ ap (λ r. paths.crosses (number ns scene things term) (path_of r)) (route_settled m things v (left a b h)))
layer_settled m ns scene form each (Typing-F.Is one other) = from_layer m ns scene (Typing-F.Is one other)
    (λ things k h. let a = is_who (length ns) (kinds things) one in let b = is_who (length ns) (kinds things) other in
    ap (λ n. n == who_or m things other) (who_settled m (length ns) things one k (left a b h)).0 ∙ ap (λ n. who_of things one == n) (who_settled m (length ns) things other k (right a b h)).0)
layer_settled m ns scene form each (Typing-F.PrefixIn patterns) = from_layer m ns scene (Typing-F.PrefixIn patterns) (λ things k h. refl)
layer_settled m ns scene form each (Typing-F.Compare one op other) = from_layer m ns scene (Typing-F.Compare one op other)
    (λ things k h. let a = is_value (length ns) (kinds things) one in let b = is_value (length ns) (kinds things) other in
    ap (λ n. compares n op (number_or m ns scene things other)) (number_settled m ns scene things one k (left a b h))
    ∙ ap (λ n. compares (number ns scene things one) op n) (number_settled m ns scene things other k (right a b h)))

pub every_settled : (m : StandIns) (ns : List text.Neighbour) (scene : Scene) (form : Typing) → IsSettled m ns scene form
every_settled m ns scene = ind-Typing (λ form. IsSettled m ns scene form) (λ x y q. subst (λ layer. IsSettled m ns scene (roll-Typing layer)) q (layer_settled m ns scene (λ e. e.0) (λ e. e.1) y))

-- the formula of a promise in a well typed text
pub promise_settled : (m : StandIns) (ns : List text.Neighbour) (scene : Scene) (p : Promise) → IsPromise (length ns) p → holds_or m ns scene p.form [] ≡ holds ns scene p.form
promise_settled m ns scene p is = every_settled m ns scene p.form [] tt is.fits

pub text_settled : (text : TypedText) (scene : Scene) (m : StandIns) → IsTyped text → All (λ p. holds_or m text.neighbours scene p.form [] ≡ holds text.neighbours scene p.form) text.promises
text_settled text scene m is = All-weaker (IsPromise (length text.neighbours)) (λ p. holds_or m text.neighbours scene p.form [] ≡ holds text.neighbours scene p.form)
    (λ p q. promise_settled m text.neighbours scene p q) text.promises is.formulas
