-- What formulas with members, and a route that is found, come to.
use Rattle.std.proofs.Common.{◌≡◌, ℕ, Bool, true, ◌&&◌, List, [], ◌∷◌, ◌++◌, Option, Some, None, refl, ap, sym, ◌∙◌, rules}
use Rattle.std.specs.Prelude.{◌||◌, map, is_some, option_map, unwrap_or}
use Rattle.std.specs.List.{list_all, list_any}
use Rattle.nr_spec_bgp.specs.Attributes.{AttributeBlock}
use Rattle.nr_rule_syntax.specs.declared.tree.Side.{Side}
use Rattle.nr_spec_typing.specs.declared.name.Bound.{Bound}
use Rattle.nr_spec_typing.specs.declared.text.Neighbour.{Neighbour}
use Rattle.nr_spec_typing.specs.declared.tree.Who.{Who}
use Rattle.nr_spec_typing.specs.declared.tree.Typing.{Typing}
use Rattle.nr_spec_typing.specs.declared.tree.Typing.TheVariants.{And, Or, If}
use Rattle.nr_spec_typing.specs.declared.tree.Typing.{the_lemmas}
use Rattle.nr_spec_typing.specs.Guarantees.{fits}
use Rattle.nr_spec_typing.specs.Meaning.{Scene, Thing, Holding, bare, holds_where, route, route_in, who_of, with_route}
use Rattle.nr_rule_eval.specs.declared.variables.Slot.{Slot}
use Rattle.nr_rule_eval.specs.declared.variables.Slot.TheVariants.{Route}
use Rattle.nr_rule_eval.specs.Variables.{thing_of, things_of}

all_of_map : {A B : Type 0} (f : A → B → Bool) (b : B) (xs : List A) → list_all (λ g. g b) (map f xs) ≡ list_all (λ x. f x b) xs
all_of_map f b [] = refl
all_of_map f b (x ∷ xs) = ap (λ t. f x b && t) (all_of_map f b xs)

any_of_map : {A B : Type 0} (f : A → B → Bool) (b : B) (xs : List A) → list_any (λ g. g b) (map f xs) ≡ list_any (λ x. f x b) xs
any_of_map f b [] = refl
any_of_map f b (x ∷ xs) = ap (λ t. f x b || t) (any_of_map f b xs)

pub fits_and : (count : ℕ) (members : List Typing) (around : List Bound) → fits count (And members) around ≡ list_all (λ member. fits count member around) members
fits_and count members around =
    let e : fits count (And members) around ≡ list_all (λ member. member around) (map (fits count) members) = search (rules, the_lemmas) in
    e ∙ all_of_map (fits count) around members

pub fits_or : (count : ℕ) (members : List Typing) (around : List Bound) → fits count (Or members) around ≡ list_all (λ member. fits count member around) members
fits_or count members around =
    let e : fits count (Or members) around ≡ list_all (λ member. member around) (map (fits count) members) = search (rules, the_lemmas) in
    e ∙ all_of_map (fits count) around members

pub holds_and : (ns : List Neighbour) (scene : Scene) (members : List Typing) (things : List Thing) → holds_where ns scene (And members) things ≡ list_all (λ member. holds_where ns scene member things) members
holds_and ns scene members things =
    let e : holds_where ns scene (And members) things ≡ list_all (λ member. member things) (map (holds_where ns scene) members) = search (rules, the_lemmas) in
    e ∙ all_of_map (holds_where ns scene) things members

pub holds_or : (ns : List Neighbour) (scene : Scene) (members : List Typing) (things : List Thing) → holds_where ns scene (Or members) things ≡ list_any (λ member. holds_where ns scene member things) members
holds_or ns scene members things =
    let e : holds_where ns scene (Or members) things ≡ list_any (λ member. member things) (map (holds_where ns scene) members) = search (rules, the_lemmas) in
    e ∙ any_of_map (holds_where ns scene) things members

one_more : (scene : Scene) (slots : List Slot) (s : Slot) → things_of scene (slots ++ s ∷ []) ≡ things_of scene slots ++ thing_of scene s ∷ []
one_more scene [] s = refl
one_more scene (x ∷ slots) s = ap (λ l. thing_of scene x ∷ l) (one_more scene slots s)

found : (o : Option AttributeBlock) (yes_ no_ : Holding) (things : List Thing) → is_some o ≡ true → with_route o yes_ no_ things ≡ yes_ (things ++ route (unwrap_or o bare) ∷ [])
found (Some r) yes_ no_ things h = refl
found None yes_ no_ things h = absurd cc

-- an `if` that finds a route holds as its first part does with the route bound
pub with_found : (scene : Scene) (side : Side) (n : ℕ) (slots : List Slot) (yes_ no_ : Holding) → is_some (route_in scene side n) ≡ true
    → with_route (route_in scene side n) yes_ no_ (things_of scene slots) ≡ yes_ (things_of scene (slots ++ Route side n ∷ []))
with_found scene side n slots yes_ no_ h = found (route_in scene side n) yes_ no_ (things_of scene slots) h ∙ ap yes_ (sym (one_more scene slots (Route side n)))

pub is_some_map : {A B : Type 0} (f : A → B) (o : Option A) → is_some (option_map f o) ≡ is_some o
is_some_map f (Some x) = refl
is_some_map f None = refl

pub holds_if : (ns : List Neighbour) (scene : Scene) (var : ℕ) (side : Side) (of : Who) (yes_ no_ : Typing) (things : List Thing)
    → holds_where ns scene (If var side of yes_ no_) things ≡ with_route (route_in scene side (who_of things of)) (holds_where ns scene yes_) (holds_where ns scene no_) things
holds_if ns scene var side of yes_ no_ things = search (rules, the_lemmas)
