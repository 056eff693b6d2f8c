-- The meaning of formulas, said in other ways.
use Rattle.std.proofs.Common.{◌≡◌, ℕ, Bool, true, false, ◌&&◌, ◌||◌, not, List, [], ◌∷◌, ◌++◌, Option, Some, None, is_some, refl, ap, sym, ◌∙◌}
use Rattle.std.specs.List.{list_all, list_any}
use Rattle.nr_spec_bgp.specs.Attributes.{AttributeBlock}
use Rattle.nr_rule_syntax.specs.declared.tree.Side.{Side}
use Rattle.nr_spec_typing.specs.declared.text.Neighbour.{Neighbour}
use Rattle.nr_spec_typing.specs.declared.tree.Who.{Who}
use Rattle.nr_spec_typing.specs.declared.tree.Typing.{Typing, map-Typing, roll-Typing, fold-roll-Typing}
use Rattle.nr_spec_typing.specs.declared.tree.Typing.TheOpen.{Typing-F}
use Rattle.nr_spec_typing.specs.declared.tree.Typing.TheVariants.{rolls-True, rolls-False, rolls-Not, rolls-All, rolls-Some, rolls-If, rolls-Stands}
use Rattle.nr_spec_typing.specs.declared.tree.Typing.TheVariants as typings
use Rattle.nr_spec_typing.specs.Meaning.{Scene, Thing, neighbour, route_in, who_of, Holding, with_route, of_neighbour, holds_step, holds_where}

at_roll : (neighbours : List Neighbour) (scene : Scene) (things : List Thing) (layer : Typing-F Typing) (t : Typing) → roll-Typing layer ≡ t
    → holds_where neighbours scene t things ≡ holds_step neighbours scene (map-Typing Typing Holding (holds_where neighbours scene) layer) things
at_roll neighbours scene things layer t e =
    ap (λ t. holds_where neighbours scene t things) (sym e) ∙ ap (λ (h : Holding). h things) (fold-roll-Typing Holding (holds_step neighbours scene) layer)

some_route : (neighbours : List Neighbour) (scene : Scene) (things : List Thing) (found : Option AttributeBlock)
    → is_some found ≡ with_route found (holds_where neighbours scene typings.True) (holds_where neighbours scene typings.False) things
some_route neighbours scene things (Some r) = sym (at_roll neighbours scene (things ++ Thing.route r ∷ []) Typing-F.True typings.True rolls-True)
some_route neighbours scene things None = sym (at_roll neighbours scene things Typing-F.False typings.False rolls-False)

pub stands_as_if : (neighbours : List Neighbour) (scene : Scene) (side : Side) (of : Who) (var : ℕ) (things : List Thing)
    → holds_where neighbours scene (typings.Stands side of) things ≡ holds_where neighbours scene (typings.If var side of typings.True typings.False) things
stands_as_if neighbours scene side of var things =
    at_roll neighbours scene things (Typing-F.Stands side of) (typings.Stands side of) (rolls-Stands side of)
    ∙ some_route neighbours scene things (route_in scene side (who_of things of))
    ∙ sym (at_roll neighbours scene things (Typing-F.If var side of typings.True typings.False) (typings.If var side of typings.True typings.False) (rolls-If var side of typings.True typings.False))

not_and : (a b : Bool) → not (a && b) ≡ not a || not b
not_and true b = refl
not_and false b = refl

or_same : (a b c d : Bool) → a ≡ b → c ≡ d → a || c ≡ b || d
or_same a b c d e f = ap (λ x. x || c) e ∙ ap (λ x. b || x) f

not_each : (f g : Holding) (things : List Thing) → ((xs : List Thing) → g xs ≡ not (f xs)) → (group : List ℕ)
    → not (list_all (of_neighbour f things) group) ≡ list_any (of_neighbour g things) group
not_each f g things h [] = refl
not_each f g things h (n ∷ group) =
    not_and (of_neighbour f things n) (list_all (of_neighbour f things) group)
    ∙ or_same (not (of_neighbour f things n)) (of_neighbour g things n) (not (list_all (of_neighbour f things) group)) (list_any (of_neighbour g things) group)
    (sym (h (things ++ neighbour n ∷ []))) (not_each f g things h group)

pub not_all : (neighbours : List Neighbour) (scene : Scene) (var : ℕ) (group : List ℕ) (form : Typing) (things : List Thing)
    → holds_where neighbours scene (typings.Not (typings.All var group form)) things ≡ holds_where neighbours scene (typings.Some var group (typings.Not form)) things
not_all neighbours scene var group form things =
    at_roll neighbours scene things (Typing-F.Not (typings.All var group form)) (typings.Not (typings.All var group form)) (rolls-Not (typings.All var group form))
    ∙ ap not (at_roll neighbours scene things (Typing-F.All var group form) (typings.All var group form) (rolls-All var group form))
    ∙ not_each (holds_where neighbours scene form) (holds_where neighbours scene (typings.Not form)) things
    (λ xs. at_roll neighbours scene xs (Typing-F.Not form) (typings.Not form) (rolls-Not form)) group
    ∙ sym (at_roll neighbours scene things (Typing-F.Some var group (typings.Not form)) (typings.Some var group (typings.Not form)) (rolls-Some var group (typings.Not form)))
