-- The typing of a file whose tokens stand elsewhere.
use Rattle.std.proofs.Common.{◌≡◌, ℕ, zero, suc, Bool, true, false, ◌&&◌, ◌||◌, ◌==◌, not, List, [], ◌∷◌, ◌++◌, map, length, slice_get, nat_lt, nat_le, is_none, count_by, Option, Some, None, Result, Ok, Err, refl, ap, sym, subst, ◌∙◌}
use Rattle.std.specs.List.{list_any}
use Rattle.nr_chain.specs.declared.digest.Digest.{Digest}
use Rattle.nr_spec_rules.specs.declared.span.Span.{Span}
use Rattle.nr_spec_bgp.specs.Prefixes.{Cidr}
use Rattle.nr_prefix.specs.declared.set.Pattern.{Pattern}
use Rattle.nr_spec_wire.specs.Reading.{◌>>=◌, wants}
use Rattle.nr_rule_syntax.specs.declared.tree.Name.{Name}
use Rattle.nr_rule_syntax.specs.declared.tree.Num.{Num}
use Rattle.nr_rule_syntax.specs.declared.tree.RootText.{RootText}
use Rattle.nr_rule_syntax.specs.declared.tree.PatternText.{PatternText}
use Rattle.nr_rule_syntax.specs.declared.tree.PrefixText.{PrefixText}
use Rattle.nr_rule_syntax.specs.declared.tree.Side.{Side}
use Rattle.nr_rule_syntax.specs.declared.tree.Cmp.{Cmp}
use Rattle.nr_rule_syntax.specs.declared.tree.Term.{Term}
use Rattle.nr_rule_syntax.specs.declared.tree.Term.TheVariants as terms
use Rattle.nr_rule_syntax.specs.declared.tree.File.{File}
use Rattle.nr_rule_syntax.specs.declared.tree.Decl.{Decl}
use Rattle.nr_rule_syntax.specs.declared.tree.Decl.TheVariants as decls
use Rattle.nr_rule_syntax.specs.declared.tree.Form.{Form, map-Form, roll-Form, fold-roll-Form, ind-Form}
use Rattle.nr_rule_syntax.specs.declared.tree.Form.TheOpen.{Form-F}
use Rattle.nr_spec_typing.specs.declared.name.Named.{Named}
use Rattle.nr_spec_typing.specs.declared.name.Named.TheVariants as named
use Rattle.nr_spec_typing.specs.declared.name.Declared.{Declared}
use Rattle.nr_spec_typing.specs.declared.name.Bound.TheVariants.{Neighbour as ForNeighbour, Route}
use Rattle.nr_spec_typing.specs.declared.text.Neighbour.{Neighbour}
use Rattle.nr_spec_typing.specs.declared.tree.Value.{Value}
use Rattle.nr_spec_typing.specs.declared.tree.Value.TheVariants as values
use Rattle.nr_spec_typing.specs.declared.tree.Typing.{Typing}
use Rattle.nr_spec_typing.specs.declared.tree.Typing.TheVariants as typings
use Rattle.nr_spec_typing.specs.Steps.{◌<$>◌, all_of, in_turn}
use Rattle.nr_spec_typing.specs.Scopes.{Scope, meaning, variable, who_by, who, route_by, route, group_by, set_by, set, is_fresh, new_variable, bind}
use Rattle.nr_spec_typing.specs.Scopes as scopes
use Rattle.nr_spec_typing.specs.Forms.{Typer, typed_step, typed, each, value, implies, over_group, conditional, crosses, is_same, compared}
use Rattle.nr_spec_typing.specs.Declarations.{Known, nothing, is_group, is_define, is_new, declare, most_seconds, at_most, network, commit, same_number, is_like, is_neighbour_name, key_of, neighbour, member_by, member, add_member, members, group, most_of, pattern, define, places_by, places, promise, declaration, declarations, whole_by, whole, typed_text}
use Rattle.nr_laws_typing.specs.Moved.{Move, moved_fault, moved_span, moved_name, moved_number, moved_term, moved_step, moved_form, moved_key, moved_most, moved_pattern, moved_prefix, moved_declaration, moved}
use Rattle.nr_laws_typing.proofs.TypedByParts.{typed-True, typed-False, typed-Not, typed-And, typed-Or, typed-Implies, typed-All, typed-Some, typed-If, typed-Stands, typed-Has, typed-Crosses, typed-Is, typed-PrefixIn, typed-Compare}

-- ---- steps

wants_moved : {A : Type 0} (to : Move) (test : Bool) (place : ℕ) (x : A) → wants test (to place) x ≡ moved_fault to (wants test place x)
wants_moved to true place x = refl
wants_moved to false place x = refl

wants_then : {A B C : Type 0} (to : Move) (test : Bool) (place : ℕ) (x : A) (y : B) (k : A → Result C ℕ) (l : B → Result C ℕ) → l y ≡ moved_fault to (k x)
    → (wants test (to place) y >>= l) ≡ moved_fault to (wants test place x >>= k)
wants_then to true place x y k l h = h
wants_then to false place x y k l h = refl

then_moved : {A B : Type 0} (to : Move) (r q : Result A ℕ) (k l : A → Result B ℕ) → q ≡ moved_fault to r → ((x : A) → l x ≡ moved_fault to (k x)) → (q >>= l) ≡ moved_fault to (r >>= k)
then_moved to (Ok x) q k l e h = ap (λ r. r >>= l) e ∙ h x
then_moved to (Err place) q k l e h = ap (λ r. r >>= l) e

map_moved : {A B : Type 0} (to : Move) (f : A → B) (r q : Result A ℕ) → q ≡ moved_fault to r → f <$> q ≡ moved_fault to (f <$> r)
map_moved to f (Ok x) q e = ap (λ r. f <$> r) e
map_moved to f (Err place) q e = ap (λ r. f <$> r) e

-- ---- names

who_moved_by : (to : Move) (place : ℕ) (found : Option ℕ) (m : Option Named) → who_by (to place) found m ≡ moved_fault to (who_by place found m)
who_moved_by to place (Some n) m = refl
who_moved_by to place None None = refl
who_moved_by to place None (Some (named.Neighbour n)) = refl
who_moved_by to place None (Some (named.Group l)) = refl
who_moved_by to place None (Some (named.Define l)) = refl
who_moved_by to place None (Some named.Promise) = refl

who_moved : (to : Move) (s : Scope) (n : Name) → who s (moved_name to n) ≡ moved_fault to (who s n)
unfolding who
who_moved to s n = who_moved_by to n.span.from (variable ForNeighbour s.variables n.word) (meaning s.names n.word)

route_moved_by : (to : Move) (place : ℕ) (found : Option ℕ) → route_by (to place) found ≡ moved_fault to (route_by place found)
route_moved_by to place (Some n) = refl
route_moved_by to place None = refl

route_moved : (to : Move) (s : Scope) (n : Name) → route s (moved_name to n) ≡ moved_fault to (route s n)
unfolding route
route_moved to s n = route_moved_by to n.span.from (variable Route s.variables n.word)

group_moved_by : (to : Move) (place : ℕ) (m : Option Named) → group_by (to place) m ≡ moved_fault to (group_by place m)
group_moved_by to place None = refl
group_moved_by to place (Some (named.Neighbour n)) = refl
group_moved_by to place (Some (named.Group l)) = refl
group_moved_by to place (Some (named.Define l)) = refl
group_moved_by to place (Some named.Promise) = refl

group_use_moved : (to : Move) (s : Scope) (n : Name) → scopes.group s (moved_name to n) ≡ moved_fault to (scopes.group s n)
unfolding scopes.group
group_use_moved to s n = group_moved_by to n.span.from (meaning s.names n.word)

set_moved_by : (to : Move) (place : ℕ) (m : Option Named) → set_by (to place) m ≡ moved_fault to (set_by place m)
set_moved_by to place None = refl
set_moved_by to place (Some (named.Neighbour n)) = refl
set_moved_by to place (Some (named.Group l)) = refl
set_moved_by to place (Some (named.Define l)) = refl
set_moved_by to place (Some named.Promise) = refl

set_moved : (to : Move) (s : Scope) (n : Name) → set s (moved_name to n) ≡ moved_fault to (set s n)
unfolding set
set_moved to s n = set_moved_by to n.span.from (meaning s.names n.word)

-- ---- terms

of_route : (to : Move) (make : ℕ → Value) (s : Scope) (n : Name) → make <$> route s (moved_name to n) ≡ moved_fault to (make <$> route s n)
of_route to make s n = map_moved to make (route s n) (route s (moved_name to n)) (route_moved to s n)

value_moved : (to : Move) (s : Scope) (t : Term) → value s (moved_term to t) ≡ moved_fault to (value s t)
value_moved to s (terms.Number n) = refl
value_moved to s terms.Bits = refl
value_moved to s (terms.Length of) = of_route to (λ n. values.Length n) s of
value_moved to s (terms.Med of) = of_route to (λ n. values.Med n) s of
value_moved to s (terms.Pref of) = of_route to (λ n. values.Pref n) s of
value_moved to s (terms.Origin of) = of_route to (λ n. values.Origin n) s of
value_moved to s (terms.First of) = of_route to (λ n. values.First n) s of
value_moved to s (terms.Last of) = of_route to (λ n. values.Last n) s of
value_moved to s (terms.Hop of) = of_route to (λ n. values.Hop n) s of
value_moved to s (terms.Asn of) = map_moved to (λ w. values.Asn w) (who s of) (who s (moved_name to of)) (who_moved to s of)

-- ---- formulas

-- one typer types what stands elsewhere as the other does
abbrev IsElsewhere : Move → Typer → Typer → Type 0
IsElsewhere to f g = (s : Scope) → g s ≡ moved_fault to (f s)

implies_moved : (to : Move) (f g a b : Typer) → IsElsewhere to f a → IsElsewhere to g b → IsElsewhere to (implies f g) (implies a b)
unfolding implies
implies_moved to f g a b h i s =
    then_moved to (f s) (a s) (λ if_. g s >>= (λ then_. Ok (typings.Implies if_ then_))) (λ if_. b s >>= (λ then_. Ok (typings.Implies if_ then_))) (h s)
    (λ x. then_moved to (g s) (b s) (λ then_. Ok (typings.Implies x then_)) (λ then_. Ok (typings.Implies x then_)) (i s) (λ y. refl))

over_moved : (to : Move) (var among : Name) (f a : Typer) → IsElsewhere to f a → (s : Scope)
    → over_group (moved_name to var) (moved_name to among) a s ≡ moved_fault to (over_group var among f s)
unfolding over_group new_variable
over_moved to var among f a h s =
    wants_then to (is_fresh s var.word) var.span.from var (moved_name to var)
    (λ called. scopes.group s among >>= (λ members. f (bind s ForNeighbour called) >>= (λ held. Ok (members, held))))
    (λ called. scopes.group s (moved_name to among) >>= (λ members. a (bind s ForNeighbour called) >>= (λ held. Ok (members, held))))
    (then_moved to (scopes.group s among) (scopes.group s (moved_name to among)) (λ members. f (bind s ForNeighbour var) >>= (λ held. Ok (members, held)))
    (λ members. a (bind s ForNeighbour var) >>= (λ held. Ok (members, held))) (group_use_moved to s among)
    (λ members. then_moved to (f (bind s ForNeighbour var)) (a (bind s ForNeighbour var)) (λ held. Ok (members, held)) (λ held. Ok (members, held)) (h (bind s ForNeighbour var)) (λ held. refl)))

if_moved : (to : Move) (var : Name) (side : Side) (of : Name) (f g a b : Typer) → IsElsewhere to f a → IsElsewhere to g b
    → IsElsewhere to (conditional var side of f g) (conditional (moved_name to var) side (moved_name to of) a b)
unfolding conditional new_variable
if_moved to var side of f g a b h i s =
    wants_then to (is_fresh s var.word) var.span.from var (moved_name to var)
    (λ called. who s of >>= (λ from. f (bind s Route called) >>= (λ then_. g s >>= (λ else_. Ok (typings.If (length s.variables) side from then_ else_)))))
    (λ called. who s (moved_name to of) >>= (λ from. a (bind s Route called) >>= (λ then_. b s >>= (λ else_. Ok (typings.If (length s.variables) side from then_ else_)))))
    (then_moved to (who s of) (who s (moved_name to of)) (λ from. f (bind s Route var) >>= (λ then_. g s >>= (λ else_. Ok (typings.If (length s.variables) side from then_ else_))))
    (λ from. a (bind s Route var) >>= (λ then_. b s >>= (λ else_. Ok (typings.If (length s.variables) side from then_ else_)))) (who_moved to s of)
    (λ from. then_moved to (f (bind s Route var)) (a (bind s Route var)) (λ then_. g s >>= (λ else_. Ok (typings.If (length s.variables) side from then_ else_)))
    (λ then_. b s >>= (λ else_. Ok (typings.If (length s.variables) side from then_ else_))) (h (bind s Route var))
    (λ then_. then_moved to (g s) (b s) (λ else_. Ok (typings.If (length s.variables) side from then_ else_)) (λ else_. Ok (typings.If (length s.variables) side from then_ else_)) (i s) (λ else_. refl))))

crosses_moved : (to : Move) (var : Name) (term : Term) → IsElsewhere to (crosses var term) (crosses (moved_name to var) (moved_term to term))
unfolding crosses
crosses_moved to var term s =
    then_moved to (route s var) (route s (moved_name to var)) (λ n. value s term >>= (λ x. Ok (typings.Crosses n x))) (λ n. value s (moved_term to term) >>= (λ x. Ok (typings.Crosses n x))) (route_moved to s var)
    (λ n. then_moved to (value s term) (value s (moved_term to term)) (λ x. Ok (typings.Crosses n x)) (λ x. Ok (typings.Crosses n x)) (value_moved to s term) (λ x. refl))

is_moved : (to : Move) (left right : Name) → IsElsewhere to (is_same left right) (is_same (moved_name to left) (moved_name to right))
unfolding is_same
is_moved to left right s =
    then_moved to (who s left) (who s (moved_name to left)) (λ n. who s right >>= (λ m. Ok (typings.Is n m))) (λ n. who s (moved_name to right) >>= (λ m. Ok (typings.Is n m))) (who_moved to s left)
    (λ n. then_moved to (who s right) (who s (moved_name to right)) (λ m. Ok (typings.Is n m)) (λ m. Ok (typings.Is n m)) (who_moved to s right) (λ m. refl))

compared_moved : (to : Move) (left : Term) (op : Cmp) (right : Term) → IsElsewhere to (compared left op right) (compared (moved_term to left) op (moved_term to right))
unfolding compared
compared_moved to left op right s =
    then_moved to (value s left) (value s (moved_term to left)) (λ n. value s right >>= (λ m. Ok (typings.Compare n op m))) (λ n. value s (moved_term to right) >>= (λ m. Ok (typings.Compare n op m)))
    (value_moved to s left)
    (λ n. then_moved to (value s right) (value s (moved_term to right)) (λ m. Ok (typings.Compare n op m)) (λ m. Ok (typings.Compare n op m)) (value_moved to s right) (λ m. refl))

each_moved : {C : Type 0} (to : Move) (form : C → Form) → ((e : C) → IsElsewhere to (typed (form e)) (typed (moved_form to (form e)))) → (es : List C) → (s : Scope)
    → each (map typed (map (moved_form to) (map form es))) s ≡ moved_fault to (each (map typed (map form es)) s)
unfolding all_of
each_moved to form h [] s = refl
each_moved to form h (e ∷ es) s =
    then_moved to (typed (form e) s) (typed (moved_form to (form e)) s) (λ first. each (map typed (map form es)) s >>= (λ others. Ok (first ∷ others)))
    (λ first. each (map typed (map (moved_form to) (map form es))) s >>= (λ others. Ok (first ∷ others))) (h e s)
    (λ first. then_moved to (each (map typed (map form es)) s) (each (map typed (map (moved_form to) (map form es))) s) (λ others. Ok (first ∷ others)) (λ others. Ok (first ∷ others)) (each_moved to form h es s) (λ others. refl))

from_layer : (to : Move) (layer : Form-F Form) → IsElsewhere to (typed_step (map-Form Form Typer typed layer)) (typed (moved_step to (map-Form Form Form (moved_form to) layer)))
    → IsElsewhere to (typed (roll-Form layer)) (typed (moved_form to (roll-Form layer)))
from_layer to layer h s =
    ap (λ f. typed f s) (fold-roll-Form Form (moved_step to) layer) ∙ h s ∙ ap (λ (t : Typer). moved_fault to (t s)) (sym (fold-roll-Form Typer typed_step layer))

layer_moved : {C : Type 0} (to : Move) (form : C → Form) → ((e : C) → IsElsewhere to (typed (form e)) (typed (moved_form to (form e)))) → (y : Form-F C)
    → IsElsewhere to (typed (roll-Form (map-Form C Form form y))) (typed (moved_form to (roll-Form (map-Form C Form form y))))
layer_moved to form h Form-F.True = from_layer to Form-F.True (λ s. typed-True s)
layer_moved to form h Form-F.False = from_layer to Form-F.False (λ s. typed-False s)
layer_moved to form h (Form-F.Not e) = from_layer to (Form-F.Not (form e))
    (λ s. typed-Not (moved_form to (form e)) s ∙ map_moved to (λ x. typings.Not x) (typed (form e) s) (typed (moved_form to (form e)) s) (h e s))
layer_moved to form h (Form-F.And es) = from_layer to (Form-F.And (map form es))
    (λ s. typed-And (map (moved_form to) (map form es)) s ∙ map_moved to (λ x. typings.And x) (each (map typed (map form es)) s) (each (map typed (map (moved_form to) (map form es))) s) (each_moved to form h es s))
layer_moved to form h (Form-F.Or es) = from_layer to (Form-F.Or (map form es))
    (λ s. typed-Or (map (moved_form to) (map form es)) s ∙ map_moved to (λ x. typings.Or x) (each (map typed (map form es)) s) (each (map typed (map (moved_form to) (map form es))) s) (each_moved to form h es s))
layer_moved to form h (Form-F.Implies e d) = from_layer to (Form-F.Implies (form e) (form d))
    (λ s. typed-Implies (moved_form to (form e)) (moved_form to (form d)) s ∙ implies_moved to (typed (form e)) (typed (form d)) (typed (moved_form to (form e))) (typed (moved_form to (form d))) (h e) (h d) s)
layer_moved to form h (Form-F.All var among e) = from_layer to (Form-F.All var among (form e))
    (λ s. typed-All (moved_name to var) (moved_name to among) (moved_form to (form e)) s
    ∙ map_moved to (λ (x : List ℕ × Typing). typings.All (length s.variables) x.0 x.1) (over_group var among (typed (form e)) s) (over_group (moved_name to var) (moved_name to among) (typed (moved_form to (form e))) s)
    (over_moved to var among (typed (form e)) (typed (moved_form to (form e))) (h e) s))
layer_moved to form h (Form-F.Some var among e) = from_layer to (Form-F.Some var among (form e))
    (λ s. typed-Some (moved_name to var) (moved_name to among) (moved_form to (form e)) s
    ∙ map_moved to (λ (x : List ℕ × Typing). typings.Some (length s.variables) x.0 x.1) (over_group var among (typed (form e)) s) (over_group (moved_name to var) (moved_name to among) (typed (moved_form to (form e))) s)
    (over_moved to var among (typed (form e)) (typed (moved_form to (form e))) (h e) s))
layer_moved to form h (Form-F.If var side of e d) = from_layer to (Form-F.If var side of (form e) (form d))
    (λ s. typed-If (moved_name to var) side (moved_name to of) (moved_form to (form e)) (moved_form to (form d)) s
    ∙ if_moved to var side of (typed (form e)) (typed (form d)) (typed (moved_form to (form e))) (typed (moved_form to (form d))) (h e) (h d) s)
layer_moved to form h (Form-F.Stands side of) = from_layer to (Form-F.Stands side of)
    (λ s. typed-Stands side (moved_name to of) s ∙ map_moved to (λ x. typings.Stands side x) (who s of) (who s (moved_name to of)) (who_moved to s of))
layer_moved to form h (Form-F.Has var c) = from_layer to (Form-F.Has var c)
    (λ s. typed-Has (moved_name to var) c s ∙ map_moved to (λ n. typings.Has n c) (route s var) (route s (moved_name to var)) (route_moved to s var))
layer_moved to form h (Form-F.Crosses var term) = from_layer to (Form-F.Crosses var term)
    (λ s. typed-Crosses (moved_name to var) (moved_term to term) s ∙ crosses_moved to var term s)
layer_moved to form h (Form-F.Is left right) = from_layer to (Form-F.Is left right)
    (λ s. typed-Is (moved_name to left) (moved_name to right) s ∙ is_moved to left right s)
layer_moved to form h (Form-F.PrefixIn name) = from_layer to (Form-F.PrefixIn name)
    (λ s. typed-PrefixIn (moved_name to name) s ∙ map_moved to (λ x. typings.PrefixIn x) (set s name) (set s (moved_name to name)) (set_moved to s name))
layer_moved to form h (Form-F.Compare left op right) = from_layer to (Form-F.Compare left op right)
    (λ s. typed-Compare (moved_term to left) op (moved_term to right) s ∙ compared_moved to left op right s)

every_moved : (to : Move) (form : Form) → IsElsewhere to (typed form) (typed (moved_form to form))
every_moved to = ind-Form (λ form. IsElsewhere to (typed form) (typed (moved_form to form)))
    (λ x y q. subst (λ layer. IsElsewhere to (typed (roll-Form layer)) (typed (moved_form to (roll-Form layer)))) q (layer_moved to (λ e. e.0) (λ e. e.1) y))

pub formula_moved : (to : Move) (form : Form) (s : Scope) → typed (moved_form to form) s ≡ moved_fault to (typed form s)
formula_moved to form s = every_moved to form s

-- ---- declarations

at_most_moved : (to : Move) (most : ℕ) (n : Num) → at_most most (moved_number to n) ≡ moved_fault to (at_most most n)
at_most_moved to most n = wants_moved to (nat_le n.value most) n.span.from n.value

network_moved : (to : Move) (k : Known) (value : Num) (span : Span) → network k (moved_number to value) (moved_span to span) ≡ moved_fault to (network k value span)
unfolding network
network_moved to k value span = wants_moved to (is_none k.network) span.from (record k { network = Some value.value })

commit_moved : (to : Move) (k : Known) (value : Num) (span : Span) → commit k (moved_number to value) (moved_span to span) ≡ moved_fault to (commit k value span)
unfolding commit
commit_moved to k value span =
    let then_ : Num → Result Known ℕ = λ first. at_most most_seconds first >>= (λ seconds. Ok (record k { commit = Some seconds })) in
    wants_then to (is_none k.commit) span.from value (moved_number to value) then_ then_
    (then_moved to (at_most most_seconds value) (at_most most_seconds (moved_number to value)) (λ seconds. Ok (record k { commit = Some seconds })) (λ seconds. Ok (record k { commit = Some seconds }))
    (at_most_moved to most_seconds value) (λ seconds. refl))

key_moved : (to : Move) (signs : Option (RootText × Num)) → key_of (moved_key to signs) ≡ moved_fault to (key_of signs)
key_moved to None = refl
key_moved to (Some key) =
    map_moved to (λ n. let o : Option (Digest × ℕ) = Some (key.0.digest, n) in o) (at_most 255 key.1) (at_most 255 (moved_number to key.1)) (at_most_moved to 255 key.1)

number_moved : (to : Move) (held : Option (Digest × ℕ)) (signs : Option (RootText × Num)) → same_number held (moved_key to signs) ≡ same_number held signs
number_moved to None None = refl
number_moved to None (Some key) = refl
number_moved to (Some held) None = refl
number_moved to (Some held) (Some key) = refl

any_same : {A : Type 0} (p q : A → Bool) → ((x : A) → p x ≡ q x) → (xs : List A) → list_any p xs ≡ list_any q xs
any_same p q e [] = refl
any_same p q e (x ∷ xs) = ap (λ b. b || list_any p xs) (e x) ∙ ap (λ b. q x || b) (any_same p q e xs)

like_moved : (to : Move) (asn addr : Num) (signs : Option (RootText × Num)) (ns : List Neighbour)
    → list_any (is_like (moved_number to asn) (moved_number to addr) (moved_key to signs)) ns ≡ list_any (is_like asn addr signs) ns
like_moved to asn addr signs ns =
    any_same (is_like (moved_number to asn) (moved_number to addr) (moved_key to signs)) (is_like asn addr signs)
    (λ n. ap (λ b. n.asn == asn.value && (n.addr == addr.value || b)) (number_moved to n.key signs)) ns

neighbour_moved : (to : Move) (k : Known) (name : Name) (asn addr : Num) (signs : Option (RootText × Num))
    → neighbour k (moved_name to name) (moved_number to asn) (moved_number to addr) (moved_key to signs) ≡ moved_fault to (neighbour k name asn addr signs)
unfolding neighbour
neighbour_moved to k name asn addr signs =
    let make : Name → Option (Digest × ℕ) → Result Known ℕ = λ called key. Ok (record k {
      names = declare k.names called (named.Neighbour (length k.neighbours));
      neighbours = k.neighbours ++ record { name = called.word; asn = asn.value; addr = addr.value; key = key } ∷ [];
    }) in
    let moved_to = moved_name to name in
    let front = is_new k.names name && nat_lt (length k.neighbours) 256 in
    ap (λ b. wants (front && not b) (to name.span.from) moved_to >>= (λ called. key_of (moved_key to signs) >>= (λ key. make called key))) (like_moved to asn addr signs k.neighbours)
    ∙ wants_then to (is_neighbour_name k name asn addr signs) name.span.from name moved_to (λ called. key_of signs >>= (λ key. make called key)) (λ called. key_of (moved_key to signs) >>= (λ key. make called key))
    (then_moved to (key_of signs) (key_of (moved_key to signs)) (λ key. make name key) (λ key. make moved_to key) (key_moved to signs) (λ key. refl))

member_moved_by : (to : Move) (place : ℕ) (before : List ℕ) (m : Option Named) → member_by (to place) before m ≡ moved_fault to (member_by place before m)
member_moved_by to place before None = refl
member_moved_by to place before (Some (named.Neighbour n)) = wants_moved to (not (list_any (λ m. m == n) before)) place n
member_moved_by to place before (Some (named.Group l)) = refl
member_moved_by to place before (Some (named.Define l)) = refl
member_moved_by to place before (Some named.Promise) = refl

members_moved : (to : Move) (names : List Declared) (found : List ℕ) (texts : List Name)
    → in_turn (add_member names) found (map (moved_name to) texts) ≡ moved_fault to (in_turn (add_member names) found texts)
unfolding in_turn
members_moved to names found [] = refl
members_moved to names found (t ∷ texts) =
    then_moved to (add_member names found t) (add_member names found (moved_name to t)) (λ next. in_turn (add_member names) next texts) (λ next. in_turn (add_member names) next (map (moved_name to) texts))
    (map_moved to (λ n. found ++ n ∷ []) (member names found t) (member names found (moved_name to t)) (member_moved_by to t.span.from found (meaning names t.word)))
    (λ next. members_moved to names next texts)

group_moved : (to : Move) (k : Known) (name : Name) (texts : List Name) → group k (moved_name to name) (map (moved_name to) texts) ≡ moved_fault to (group k name texts)
unfolding group
group_moved to k name texts =
    let make : Name → List ℕ → Result Known ℕ = λ called numbers. Ok (record k { names = declare k.names called (named.Group numbers) }) in
    wants_then to (is_new k.names name && nat_lt (count_by is_group k.names) 64) name.span.from name (moved_name to name)
    (λ called. members k.names texts >>= (λ numbers. make called numbers)) (λ called. members k.names (map (moved_name to) texts) >>= (λ numbers. make called numbers))
    (then_moved to (members k.names texts) (members k.names (map (moved_name to) texts)) (λ numbers. make name numbers) (λ numbers. make (moved_name to name) numbers) (members_moved to k.names [] texts) (λ numbers. refl))

most_moved : (to : Move) (len : ℕ) (most : Option Num) → most_of len (moved_most to most) ≡ moved_fault to (most_of len most)
most_moved to len None = refl
most_moved to len (Some n) = wants_moved to (nat_le len n.value && nat_le n.value 32) n.span.from n.value

patterns_moved : (to : Move) (texts : List PatternText) → all_of pattern (map (moved_pattern to) texts) ≡ moved_fault to (all_of pattern texts)
unfolding all_of
patterns_moved to [] = refl
patterns_moved to (t ∷ texts) =
    then_moved to (pattern t) (pattern (moved_pattern to t)) (λ first. all_of pattern texts >>= (λ others. Ok (first ∷ others))) (λ first. all_of pattern (map (moved_pattern to) texts) >>= (λ others. Ok (first ∷ others)))
    (map_moved to (λ most. let w : Pattern = record { prefix = t.prefix; most = most } in w) (most_of t.prefix.len t.most) (most_of t.prefix.len (moved_most to t.most)) (most_moved to t.prefix.len t.most))
    (λ first. then_moved to (all_of pattern texts) (all_of pattern (map (moved_pattern to) texts)) (λ others. Ok (first ∷ others)) (λ others. Ok (first ∷ others)) (patterns_moved to texts) (λ others. refl))

define_moved : (to : Move) (k : Known) (name : Name) (texts : List PatternText) → define k (moved_name to name) (map (moved_pattern to) texts) ≡ moved_fault to (define k name texts)
unfolding define
define_moved to k name texts =
    let make : Name → List Pattern → Result Known ℕ = λ called set. Ok (record k { names = declare k.names called (named.Define set) }) in
    wants_then to (is_new k.names name && nat_lt (count_by is_define k.names) 64) name.span.from name (moved_name to name)
    (λ called. all_of pattern texts >>= (λ set. make called set)) (λ called. all_of pattern (map (moved_pattern to) texts) >>= (λ set. make called set))
    (then_moved to (all_of pattern texts) (all_of pattern (map (moved_pattern to) texts)) (λ set. make name set) (λ set. make (moved_name to name) set) (patterns_moved to texts) (λ set. refl))

prefixes_moved : (to : Move) (at : List PrefixText) → map (λ (p : PrefixText). p.prefix) (map (moved_prefix to) at) ≡ map (λ (p : PrefixText). p.prefix) at
prefixes_moved to [] = refl
prefixes_moved to (p ∷ at) = ap (λ l. p.prefix ∷ l) (prefixes_moved to at)

moved_place : Move → Option PrefixText → Option PrefixText
moved_place to None = None
moved_place to (Some p) = Some (moved_prefix to p)

place_moved : (to : Move) (at : List PrefixText) (n : ℕ) → slice_get (map (moved_prefix to) at) n ≡ moved_place to (slice_get at n)
unfolding moved_place
place_moved to [] n = refl
place_moved to (p ∷ at) zero = refl
place_moved to (p ∷ at) (suc n) = place_moved to at n

places_moved_by : (to : Move) (at : List PrefixText) (over : Option PrefixText) → places_by (map (moved_prefix to) at) (moved_place to over) ≡ moved_fault to (places_by at over)
unfolding moved_place
places_moved_by to at None = ap (λ l. let r : Result (List Cidr) ℕ = Ok l in r) (prefixes_moved to at)
places_moved_by to at (Some p) = refl

places_moved : (to : Move) (at : List PrefixText) → places (map (moved_prefix to) at) ≡ moved_fault to (places at)
places_moved to at = ap (places_by (map (moved_prefix to) at)) (place_moved to at 1024) ∙ places_moved_by to at (slice_get at 1024)

promise_moved : (to : Move) (k : Known) (name : Name) (grace : Num) (at : List PrefixText) (form : Form)
    → promise k (moved_name to name) (moved_number to grace) (map (moved_prefix to) at) (moved_form to form) ≡ moved_fault to (promise k name grace at form)
unfolding promise
promise_moved to k name grace at form =
    let scope : Name → Scope = λ called. record { names = declare k.names called named.Promise; variables = [] } in
    let make : Name → ℕ → List Cidr → Typing → Result Known ℕ = λ called seconds prefixes held. Ok (record k {
      names = declare k.names called named.Promise;
      promises = k.promises ++ record { name = called.word; grace = seconds; at = prefixes; form = held } ∷ [];
    }) in
    let there = moved_name to name in
    wants_then to (is_new k.names name && nat_lt (length k.promises) 256) name.span.from name there
    (λ called. at_most most_seconds grace >>= (λ seconds. places at >>= (λ prefixes. typed form (scope called) >>= (λ held. make called seconds prefixes held))))
    (λ called. at_most most_seconds (moved_number to grace) >>= (λ seconds. places (map (moved_prefix to) at) >>= (λ prefixes. typed (moved_form to form) (scope called) >>= (λ held. make called seconds prefixes held))))
    (then_moved to (at_most most_seconds grace) (at_most most_seconds (moved_number to grace))
    (λ seconds. places at >>= (λ prefixes. typed form (scope name) >>= (λ held. make name seconds prefixes held)))
    (λ seconds. places (map (moved_prefix to) at) >>= (λ prefixes. typed (moved_form to form) (scope name) >>= (λ held. make there seconds prefixes held))) (at_most_moved to most_seconds grace)
    (λ seconds. then_moved to (places at) (places (map (moved_prefix to) at)) (λ prefixes. typed form (scope name) >>= (λ held. make name seconds prefixes held))
    (λ prefixes. typed (moved_form to form) (scope name) >>= (λ held. make there seconds prefixes held)) (places_moved to at)
    (λ prefixes. then_moved to (typed form (scope name)) (typed (moved_form to form) (scope name)) (λ held. make name seconds prefixes held) (λ held. make there seconds prefixes held) (formula_moved to form (scope name)) (λ held. refl))))

declaration_moved : (to : Move) (k : Known) (d : Decl) → declaration k (moved_declaration to d) ≡ moved_fault to (declaration k d)
declaration_moved to k (decls.Network value span) = network_moved to k value span
declaration_moved to k (decls.Commit value span) = commit_moved to k value span
declaration_moved to k (decls.Neighbour name asn addr key) = neighbour_moved to k name asn addr key
declaration_moved to k (decls.Group name texts) = group_moved to k name texts
declaration_moved to k (decls.Define name texts) = define_moved to k name texts
declaration_moved to k (decls.Promise name grace at form) = promise_moved to k name grace at form

turns_moved : (to : Move) (k : Known) (ds : List Decl) → in_turn declaration k (map (moved_declaration to) ds) ≡ moved_fault to (in_turn declaration k ds)
unfolding in_turn
turns_moved to k [] = refl
turns_moved to k (d ∷ ds) =
    then_moved to (declaration k d) (declaration k (moved_declaration to d)) (λ next. in_turn declaration next ds) (λ next. in_turn declaration next (map (moved_declaration to) ds)) (declaration_moved to k d)
    (λ next. turns_moved to next ds)

whole_moved_by : (to : Move) (end : ℕ) (k : Known) (n c : Option ℕ) → whole_by (to end) k n c ≡ moved_fault to (whole_by end k n c)
whole_moved_by to end k None None = refl
whole_moved_by to end k None (Some c) = refl
whole_moved_by to end k (Some n) None = refl
whole_moved_by to end k (Some n) (Some c) = refl

pub file_moved : (to : Move) (file : File) → typed_text (moved to file) ≡ moved_fault to (typed_text file)
unfolding typed_text
file_moved to file =
    then_moved to (declarations file.decls) (declarations (map (moved_declaration to) file.decls)) (λ k. whole file.end k) (λ k. whole (to file.end) k) (turns_moved to nothing file.decls)
    (λ k. whole_moved_by to file.end k k.network k.commit)
