-- A formula is typed exactly where its uses are as they are wanted, and its fault is the first that isn't.
use Rattle.std.proofs.Common.{◌≡◌, ℕ, suc, ◌+◌, cond, nat_lt, Bool, true, false, ◌&&◌, ◌||◌, not, List, [], ◌∷◌, ◌++◌, map, length, position, is_none, is_some, Option, Some, None, Result, Ok, Err, refl, ap, sym, subst, ◌∙◌, arith}
use Rattle.std.specs.List.{list_any, flat_map, position_or_len}
use Rattle.std.proofs.lemmas.Bool.Decides.{nat_tests}
use Rattle.std.specs.Str.{bytes_eq}
use Rattle.std.proofs.lemmas.List.{map-append}
use Rattle.nr_spec_wire.specs.Reading.{◌>>=◌, wants, fault}
use Rattle.nr_rule_syntax.specs.declared.tree.Name.{Name}
use Rattle.nr_rule_syntax.specs.declared.tree.Side.{Side}
use Rattle.nr_rule_syntax.specs.declared.tree.Cmp.{Cmp}
use Rattle.nr_rule_syntax.specs.declared.tree.Term.{Term}
use Rattle.nr_rule_syntax.specs.declared.tree.Term.TheVariants as terms
use Rattle.nr_rule_syntax.specs.declared.tree.Form.{Form, map-Form, roll-Form, fold-roll-Form, ind-Form}
use Rattle.nr_rule_syntax.specs.declared.tree.Form.TheOpen.{Form-F}
use Rattle.nr_spec_typing.specs.declared.name.Named.{Named}
use Rattle.nr_spec_typing.specs.declared.name.Named.TheVariants as named
use Rattle.nr_spec_typing.specs.declared.name.Bound.{Bound}
use Rattle.nr_spec_typing.specs.declared.name.Bound.TheVariants.{Neighbour, Route}
use Rattle.nr_spec_typing.specs.declared.name.Variable.{Variable}
use Rattle.nr_spec_typing.specs.declared.tree.Value.{Value}
use Rattle.nr_spec_typing.specs.declared.tree.Value.TheVariants as values
use Rattle.nr_spec_typing.specs.declared.tree.Typing.TheVariants as typings
use Rattle.nr_spec_typing.specs.Steps.{◌<$>◌, all_of}
use Rattle.nr_spec_typing.specs.Scopes.{Scope, meaning, same_bound, is_called, variable, who_by, who, route_by, route, group_by, group, set_by, set, is_fresh, new_variable, bind}
use Rattle.nr_spec_typing.specs.Forms.{Typer, typed_step, typed, each, value, implies, over_group, conditional, crosses, is_same, compared}
use Rattle.nr_spec_typing.proofs.Fitting.{passed}
use Rattle.nr_laws_typing.specs.Uses as want
use Rattle.nr_laws_typing.specs.Uses.{Kind, Want, Use, Using, asks, with_variable, term_uses, uses_step, uses, is_wanted, is_kind, is_bound, is_neighbour, is_group, is_set, demand_of}
use Rattle.nr_laws_typing.specs.Demands.{Demand, unless, or_else, first_unmet}
use Rattle.nr_laws_typing.specs.Views.{kind_named, kind_by}

-- ---- the fault of a step

pub fault_map : {A B : Type 0} (f : A → B) (r : Result A ℕ) → fault (f <$> r) ≡ fault r
fault_map f (Ok x) = refl
fault_map f (Err e) = refl

pub fault_then : {A B : Type 0} (r : Result A ℕ) (f : A → Result B ℕ) (b : Option ℕ) → ((x : A) → r ≡ Ok x → fault (f x) ≡ b) → fault (r >>= f) ≡ or_else (fault r) b
fault_then (Ok x) f b h = h x refl
fault_then (Err e) f b h = refl

pub fault_wants : {A : Type 0} (test : Bool) (place : ℕ) (x : A) → fault (wants test place x) ≡ unless test place
fault_wants true place x = refl
fault_wants false place x = refl

pub or_none : (b : Option ℕ) → or_else b None ≡ b
or_none (Some n) = refl
or_none None = refl

pub or_assoc : (a b c : Option ℕ) → or_else (or_else a b) c ≡ or_else a (or_else b c)
or_assoc (Some n) b c = refl
or_assoc None b c = refl

pub unmet_append : (xs ys : List Demand) → first_unmet (xs ++ ys) ≡ or_else (first_unmet xs) (first_unmet ys)
unmet_append [] ys = refl
unmet_append (d ∷ xs) ys = ap (λ o. or_else (unless d.met d.at.from) o) (unmet_append xs ys) ∙ sym (or_assoc (unless d.met d.at.from) (first_unmet xs) (first_unmet ys))

-- ---- uses

one_further : (b : Bool) (n len : ℕ) (r : Bool) → nat_lt n len ≡ r → nat_lt (cond (not b) (1 + n) 0) (suc len) ≡ b || r
one_further true n len r h = grind (arith, nat_tests)
one_further false n len true h = grind (arith, nat_tests)
one_further false n len false h = grind (arith, nat_tests)

found_within : {A : Type 0} (p : A → Bool) (xs : List A) → nat_lt (position_or_len p xs) (length xs) ≡ list_any p xs
found_within p [] = grind (arith, nat_tests)
found_within p (x ∷ xs) = one_further (p x) (position_or_len p xs) (length xs) (list_any p xs) (found_within p xs)

some_if : (b : Bool) (n : ℕ) (r : Option ℕ) → r ≡ cond b (Some n) None → is_some r ≡ b
some_if true n r h = ap (λ (o : Option ℕ). is_some o) h
some_if false n r h = ap (λ (o : Option ℕ). is_some o) h

some_position : {A : Type 0} (p : A → Bool) (xs : List A) → is_some (position p xs) ≡ list_any p xs
some_position p xs = some_if (nat_lt (position_or_len p xs) (length xs)) (position_or_len p xs) (position p xs) refl ∙ found_within p xs

kind_bound : (bound found : Bound) → same_bound found bound ≡ is_kind bound found
kind_bound Neighbour Neighbour = refl
kind_bound Neighbour Route = refl
kind_bound Route Neighbour = refl
kind_bound Route Route = refl

any_bound : (bound : Bound) (name : Name) (around : List Variable) → list_any (is_called bound name.word) around ≡ is_bound bound name around
any_bound bound name [] = refl
any_bound bound name (v ∷ around) =
    ap (λ b. (bytes_eq v.word name.word && b) || list_any (is_called bound name.word) around) (kind_bound bound v.bound)
    ∙ ap (λ b. (bytes_eq v.word name.word && is_kind bound v.bound) || b) (any_bound bound name around)

who_told_by : (place : ℕ) (found : Option ℕ) (m : Option Named) → fault (who_by place found m) ≡ unless (is_some found || is_neighbour (kind_named m)) place
who_told_by place (Some n) m = refl
who_told_by place None None = refl
who_told_by place None (Some (named.Neighbour n)) = refl
who_told_by place None (Some (named.Group members)) = refl
who_told_by place None (Some (named.Define patterns)) = refl
who_told_by place None (Some named.Promise) = refl

-- the one use
abbrev one : Scope → Want → Name → Option ℕ
one s w name = unless (is_wanted (kind_by s.names) name s.variables w) name.span.from

who_told : (s : Scope) (name : Name) → fault (who s name) ≡ one s want.Who name
unfolding who
who_told s name = who_told_by name.span.from (variable Neighbour s.variables name.word) (meaning s.names name.word)
    ∙ ap (λ b. unless (b || is_neighbour (kind_by s.names name.word)) name.span.from) (some_position (is_called Neighbour name.word) s.variables ∙ any_bound Neighbour name s.variables)

route_told_by : (place : ℕ) (found : Option ℕ) → fault (route_by place found) ≡ unless (is_some found) place
route_told_by place (Some n) = refl
route_told_by place None = refl

route_told : (s : Scope) (name : Name) → fault (route s name) ≡ one s want.OneRoute name
unfolding route
route_told s name = route_told_by name.span.from (variable Route s.variables name.word) ∙ ap (λ b. unless b name.span.from) (some_position (is_called Route name.word) s.variables ∙ any_bound Route name s.variables)

group_told_by : (place : ℕ) (m : Option Named) → fault (group_by place m) ≡ unless (is_group (kind_named m)) place
group_told_by place None = refl
group_told_by place (Some (named.Neighbour n)) = refl
group_told_by place (Some (named.Group members)) = refl
group_told_by place (Some (named.Define patterns)) = refl
group_told_by place (Some named.Promise) = refl

group_told : (s : Scope) (name : Name) → fault (group s name) ≡ one s want.Group name
unfolding group
group_told s name = group_told_by name.span.from (meaning s.names name.word)

set_told_by : (place : ℕ) (m : Option Named) → fault (set_by place m) ≡ unless (is_set (kind_named m)) place
set_told_by place None = refl
set_told_by place (Some (named.Neighbour n)) = refl
set_told_by place (Some (named.Group members)) = refl
set_told_by place (Some (named.Define patterns)) = refl
set_told_by place (Some named.Promise) = refl

set_told : (s : Scope) (name : Name) → fault (set s name) ≡ one s want.Set name
unfolding set
set_told s name = set_told_by name.span.from (meaning s.names name.word)

pub none_named : (m : Option Named) → is_none m ≡ is_none (kind_named m)
none_named None = refl
none_named (Some (named.Neighbour n)) = refl
none_named (Some (named.Group members)) = refl
none_named (Some (named.Define patterns)) = refl
none_named (Some named.Promise) = refl

new_told : (s : Scope) (name : Name) → fault (new_variable s name) ≡ one s want.New name
unfolding new_variable
new_told s name = fault_wants (is_fresh s name.word) name.span.from name ∙ ap (λ b. unless (b && not (list_any (λ (v : Variable). bytes_eq v.word name.word) s.variables)) name.span.from) (none_named (meaning s.names name.word))

new_same : (s : Scope) (name called : Name) → new_variable s name ≡ Ok called → name ≡ called
unfolding new_variable
new_same s name called h = (passed (is_fresh s name.word) name.span.from name called h).1

-- ---- terms

abbrev pub unfit : Scope → List Use → Option ℕ
unfit s us = first_unmet (map (demand_of (kind_by s.names)) us)

of_route : (make : ℕ → Value) (s : Scope) (name : Name) → fault (make <$> route s name) ≡ unfit s (asks want.OneRoute name s.variables)
of_route make s name = fault_map make (route s name) ∙ route_told s name ∙ sym (or_none (one s want.OneRoute name))

term_told : (s : Scope) (t : Term) → fault (value s t) ≡ unfit s (term_uses t s.variables)
term_told s (terms.Number n) = refl
term_told s terms.Bits = refl
term_told s (terms.Length of) = of_route (λ n. values.Length n) s of
term_told s (terms.Med of) = of_route (λ n. values.Med n) s of
term_told s (terms.Pref of) = of_route (λ n. values.Pref n) s of
term_told s (terms.Origin of) = of_route (λ n. values.Origin n) s of
term_told s (terms.First of) = of_route (λ n. values.First n) s of
term_told s (terms.Last of) = of_route (λ n. values.Last n) s of
term_told s (terms.Hop of) = of_route (λ n. values.Hop n) s of
term_told s (terms.Asn of) = fault_map (λ w. values.Asn w) (who s of) ∙ who_told s of ∙ sym (or_none (one s want.Who of))

-- ---- formulas

abbrev pub IsTold : Typer → Using → Type 0
IsTold f us = (s : Scope) → fault (f s) ≡ unfit s (us s.variables)

two : (s : Scope) (xs ys : List Use) → unfit s (xs ++ ys) ≡ or_else (unfit s xs) (unfit s ys)
two s xs ys = ap first_unmet (map-append (demand_of (kind_by s.names)) xs ys) ∙ unmet_append (map (demand_of (kind_by s.names)) xs) (map (demand_of (kind_by s.names)) ys)

single : (s : Scope) (w : Want) (name : Name) → unfit s (asks w name s.variables) ≡ one s w name
single s w name = or_none (one s w name)

implies_told : (f g : Typer) (us vs : Using) → IsTold f us → IsTold g vs → IsTold (implies f g) (λ around. us around ++ vs around)
unfolding implies
implies_told f g us vs a b s =
    fault_then (f s) (λ if_. g s >>= (λ then_. Ok (typings.Implies if_ then_))) (fault (g s)) (λ x e. fault_then (g s) (λ then_. Ok (typings.Implies x then_)) None (λ y d. refl) ∙ or_none (fault (g s)))
    ∙ ap (λ b. or_else b (fault (g s))) (a s) ∙ ap (λ b. or_else (unfit s (us s.variables)) b) (b s) ∙ sym (two s (us s.variables) (vs s.variables))

over_told : (var among : Name) (f : Typer) (us : Using) → IsTold f us → (s : Scope)
    → fault (over_group var among f s) ≡ unfit s (asks want.New var s.variables ++ (asks want.Group among s.variables ++ us (with_variable Neighbour var s.variables)))
unfolding over_group
over_told var among f us a s =
    let inner = unfit s (us (with_variable Neighbour var s.variables)) in
    fault_then (new_variable s var) (λ called. group s among >>= (λ members. f (bind s Neighbour called) >>= (λ held. Ok (members, held)))) (or_else (one s want.Group among) inner)
    (λ called e. fault_then (group s among) (λ members. f (bind s Neighbour called) >>= (λ held. Ok (members, held))) inner
    (λ members d. fault_then (f (bind s Neighbour called)) (λ held. Ok (members, held)) None (λ held c. refl) ∙ or_none (fault (f (bind s Neighbour called)))
    ∙ subst (λ called. fault (f (bind s Neighbour called)) ≡ inner) (new_same s var called e) (a (bind s Neighbour var)))
    ∙ ap (λ b. or_else b inner) (group_told s among))
    ∙ ap (λ b. or_else b (or_else (one s want.Group among) inner)) (new_told s var)

if_told : (var : Name) (side : Side) (of : Name) (f g : Typer) (us vs : Using) → IsTold f us → IsTold g vs
    → IsTold (conditional var side of f g) (λ around. asks want.New var around ++ (asks want.Who of around ++ (us (with_variable Route var around) ++ vs around)))
unfolding conditional
if_told var side of f g us vs a b s =
    let yes_ = unfit s (us (with_variable Route var s.variables)) in
    let no_ = unfit s (vs s.variables) in
    fault_then (new_variable s var) (λ called. who s of >>= (λ from. f (bind s Route called) >>= (λ then_. g s >>= (λ else_. Ok (typings.If (length s.variables) side from then_ else_)))))
    (or_else (one s want.Who of) (or_else yes_ no_))
    (λ called e. fault_then (who s of) (λ from. f (bind s Route called) >>= (λ then_. g s >>= (λ else_. Ok (typings.If (length s.variables) side from then_ else_)))) (or_else yes_ no_)
    (λ from d. fault_then (f (bind s Route called)) (λ then_. g s >>= (λ else_. Ok (typings.If (length s.variables) side from then_ else_))) no_
    (λ then_ c. fault_then (g s) (λ else_. Ok (typings.If (length s.variables) side from then_ else_)) None (λ else_ z. refl) ∙ or_none (fault (g s)) ∙ b s)
    ∙ ap (λ b. or_else b no_) (subst (λ called. fault (f (bind s Route called)) ≡ yes_) (new_same s var called e) (a (bind s Route var))))
    ∙ ap (λ b. or_else b (or_else yes_ no_)) (who_told s of))
    ∙ ap (λ b. or_else b (or_else (one s want.Who of) (or_else yes_ no_))) (new_told s var)
    ∙ ap (λ b. or_else (one s want.New var) (or_else (one s want.Who of) b)) (sym (two s (us (with_variable Route var s.variables)) (vs s.variables)))

crosses_told : (var : Name) (term : Term) → IsTold (crosses var term) (λ around. asks want.OneRoute var around ++ term_uses term around)
unfolding crosses
crosses_told var term s =
    fault_then (route s var) (λ n. value s term >>= (λ x. Ok (typings.Crosses n x))) (fault (value s term))
    (λ n d. fault_then (value s term) (λ x. Ok (typings.Crosses n x)) None (λ x z. refl) ∙ or_none (fault (value s term)))
    ∙ ap (λ b. or_else b (fault (value s term))) (route_told s var) ∙ ap (λ b. or_else (one s want.OneRoute var) b) (term_told s term)

is_told : (left right : Name) → IsTold (is_same left right) (λ around. asks want.Who left around ++ asks want.Who right around)
unfolding is_same
is_told left right s =
    fault_then (who s left) (λ n. who s right >>= (λ m. Ok (typings.Is n m))) (fault (who s right))
    (λ n d. fault_then (who s right) (λ m. Ok (typings.Is n m)) None (λ x z. refl) ∙ or_none (fault (who s right)))
    ∙ ap (λ b. or_else b (fault (who s right))) (who_told s left) ∙ ap (λ b. or_else (one s want.Who left) b) (who_told s right ∙ sym (single s want.Who right))

compared_told : (left : Term) (op : Cmp) (right : Term) → IsTold (compared left op right) (λ around. term_uses left around ++ term_uses right around)
unfolding compared
compared_told left op right s =
    fault_then (value s left) (λ n. value s right >>= (λ m. Ok (typings.Compare n op m))) (fault (value s right))
    (λ n d. fault_then (value s right) (λ m. Ok (typings.Compare n op m)) None (λ x z. refl) ∙ or_none (fault (value s right)))
    ∙ ap (λ b. or_else b (fault (value s right))) (term_told s left) ∙ ap (λ b. or_else (unfit s (term_uses left s.variables)) b) (term_told s right)
    ∙ sym (two s (term_uses left s.variables) (term_uses right s.variables))

-- ---- every formula

each_told : {C : Type 0} (form : C → Form) → ((e : C) → IsTold (typed (form e)) (uses (form e))) → (es : List C) → (s : Scope)
    → fault (each (map typed (map form es)) s) ≡ unfit s (flat_map (λ member. member s.variables) (map uses (map form es)))
unfolding all_of
each_told form told [] s = refl
each_told form told (e ∷ es) s =
    let others = flat_map (λ (member : Using). member s.variables) (map uses (map form es)) in
    fault_then (typed (form e) s) (λ first. each (map typed (map form es)) s >>= (λ more. Ok (first ∷ more))) (fault (each (map typed (map form es)) s))
    (λ first d. fault_then (each (map typed (map form es)) s) (λ more. Ok (first ∷ more)) None (λ more z. refl) ∙ or_none (fault (each (map typed (map form es)) s)))
    ∙ ap (λ b. or_else b (fault (each (map typed (map form es)) s))) (told e s) ∙ ap (λ b. or_else (unfit s (uses (form e) s.variables)) b) (each_told form told es s)
    ∙ sym (two s (uses (form e) s.variables) others)

from_layer : (layer : Form-F Form) → IsTold (typed_step (map-Form Form Typer typed layer)) (uses_step (map-Form Form Using uses layer)) → IsTold (typed (roll-Form layer)) (uses (roll-Form layer))
from_layer layer t s =
    ap (λ (f : Typer). fault (f s)) (fold-roll-Form Typer typed_step layer) ∙ t s ∙ ap (λ (u : Using). unfit s (u s.variables)) (sym (fold-roll-Form Using uses_step layer))

layer_told : {C : Type 0} (form : C → Form) → ((e : C) → IsTold (typed (form e)) (uses (form e))) → (y : Form-F C) → IsTold (typed (roll-Form (map-Form C Form form y))) (uses (roll-Form (map-Form C Form form y)))
layer_told form told Form-F.True = from_layer Form-F.True (λ s. refl)
layer_told form told Form-F.False = from_layer Form-F.False (λ s. refl)
layer_told form told (Form-F.Not e) = from_layer (Form-F.Not (form e)) (λ s. fault_map (λ x. typings.Not x) (typed (form e) s) ∙ told e s)
layer_told form told (Form-F.And es) = from_layer (Form-F.And (map form es)) (λ s. fault_map (λ x. typings.And x) (each (map typed (map form es)) s) ∙ each_told form told es s)
layer_told form told (Form-F.Or es) = from_layer (Form-F.Or (map form es)) (λ s. fault_map (λ x. typings.Or x) (each (map typed (map form es)) s) ∙ each_told form told es s)
layer_told form told (Form-F.Implies e d) = from_layer (Form-F.Implies (form e) (form d)) (implies_told (typed (form e)) (typed (form d)) (uses (form e)) (uses (form d)) (told e) (told d))
layer_told form told (Form-F.All var among e) = from_layer (Form-F.All var among (form e))
    (λ s. fault_map (λ x. typings.All (length s.variables) x.0 x.1) (over_group var among (typed (form e)) s) ∙ over_told var among (typed (form e)) (uses (form e)) (told e) s)
layer_told form told (Form-F.Some var among e) = from_layer (Form-F.Some var among (form e))
    (λ s. fault_map (λ x. typings.Some (length s.variables) x.0 x.1) (over_group var among (typed (form e)) s) ∙ over_told var among (typed (form e)) (uses (form e)) (told e) s)
layer_told form told (Form-F.If var side of e d) = from_layer (Form-F.If var side of (form e) (form d)) (if_told var side of (typed (form e)) (typed (form d)) (uses (form e)) (uses (form d)) (told e) (told d))
layer_told form told (Form-F.Stands side of) = from_layer (Form-F.Stands side of) (λ s. fault_map (λ x. typings.Stands side x) (who s of) ∙ who_told s of ∙ sym (single s want.Who of))
layer_told form told (Form-F.Has var c) = from_layer (Form-F.Has var c) (λ s. fault_map (λ n. typings.Has n c) (route s var) ∙ route_told s var ∙ sym (single s want.OneRoute var))
layer_told form told (Form-F.Crosses var term) = from_layer (Form-F.Crosses var term) (crosses_told var term)
layer_told form told (Form-F.Is left right) = from_layer (Form-F.Is left right) (is_told left right)
layer_told form told (Form-F.PrefixIn name) = from_layer (Form-F.PrefixIn name) (λ s. fault_map (λ x. typings.PrefixIn x) (set s name) ∙ set_told s name ∙ sym (single s want.Set name))
layer_told form told (Form-F.Compare left op right) = from_layer (Form-F.Compare left op right) (compared_told left op right)

pub every_told : (form : Form) → IsTold (typed form) (uses form)
every_told = ind-Form (λ form. IsTold (typed form) (uses form)) (λ x y q. subst (λ layer. IsTold (typed (roll-Form layer)) (uses (roll-Form layer))) q (layer_told (λ e. e.0) (λ e. e.1) y))

pub formula_told : (form : Form) (s : Scope) → fault (typed form s) ≡ unfit s (uses form s.variables)
formula_told form s = every_told form s
