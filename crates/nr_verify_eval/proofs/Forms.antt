-- What formulas with members come to.
use Rattle.std.proofs.Common.{◌≡◌, ℕ, Bool, ◌&&◌, List, [], ◌∷◌, refl, ap, ◌∙◌, rules}
use Rattle.std.specs.Prelude.{◌||◌, map}
use Rattle.std.specs.List.{list_all, list_any}
use Rattle.nr_spec_typing.specs.declared.text.Neighbour.{Neighbour}
use Rattle.nr_spec_typing.specs.declared.tree.Typing.{Typing, the_lemmas}
use Rattle.nr_spec_typing.specs.declared.tree.Typing.TheVariants.{And, Or}
use Rattle.nr_spec_typing.specs.Meaning.{Scene, Thing, holds_where}

all_of_map : {A B : Type 0} (f : A → B → Bool) (b : B) (xs : List A) → list_all (λ g. g b) (map f xs) ≡ list_all (λ x. f x b) xs
all_of_map f b [] = refl
all_of_map f b (x ∷ xs) = ap (λ t. f x b && t) (all_of_map f b xs)

any_of_map : {A B : Type 0} (f : A → B → Bool) (b : B) (xs : List A) → list_any (λ g. g b) (map f xs) ≡ list_any (λ x. f x b) xs
any_of_map f b [] = refl
any_of_map f b (x ∷ xs) = ap (λ t. f x b || t) (any_of_map f b xs)

pub holds_and : (ns : List Neighbour) (scene : Scene) (members : List Typing) (things : List Thing) → holds_where ns scene (And members) things ≡ list_all (λ member. holds_where ns scene member things) members
holds_and ns scene members things =
    let e : holds_where ns scene (And members) things ≡ list_all (λ member. member things) (map (holds_where ns scene) members) = search (rules, the_lemmas) in
    e ∙ all_of_map (holds_where ns scene) things members

pub holds_or : (ns : List Neighbour) (scene : Scene) (members : List Typing) (things : List Thing) → holds_where ns scene (Or members) things ≡ list_any (λ member. holds_where ns scene member things) members
holds_or ns scene members things =
    let e : holds_where ns scene (Or members) things ≡ list_any (λ member. member things) (map (holds_where ns scene) members) = search (rules, the_lemmas) in
    e ∙ any_of_map (holds_where ns scene) things members
