-- What a formula says of a scene, it says of the bytes of its routes.
use Rattle.std.proofs.Common.{◌≡◌, ℕ, List, Option, Some, None, Result, Ok, refl, ap, sym, ◌∙◌}
use mathlib.Core.Path.{fun_ext}
use Rattle.nr_spec_bgp.specs.Attributes.{Attribute, AttributeBlock, attributes_in}
use Rattle.nr_spec_typing.specs.declared.text.Neighbour.{Neighbour}
use Rattle.nr_spec_typing.specs.declared.tree.Typing.{Typing}
use Rattle.nr_spec_typing.specs.Meaning.{Scene, Thing, IsRead, IsScene, holds_where}
use Rattle.nr_laws_meaning.specs.Blocks.{SameBytes, SameScene}

fine : List Attribute → Result (List Attribute) ℕ
fine list = Ok list

list_in : Result (List Attribute) ℕ → List Attribute → List Attribute
list_in (Ok list) other = list
list_in _ other = other

same_list : (one other : List Attribute) → fine one ≡ fine other → one ≡ other
unfolding fine list_in
same_list one other e = ap (λ r. list_in r other) e

block_is : (r s : AttributeBlock) → r.block ≡ s.block → r.as4 ≡ s.as4 → r.list ≡ s.list → r ≡ s
block_is r s e f g =
    ap (λ b. let x : AttributeBlock = record { block = b; as4 = r.as4; list = r.list } in x) e
    ∙ ap (λ w. let x : AttributeBlock = record { block = s.block; as4 = w; list = r.list } in x) f
    ∙ ap (λ l. let x : AttributeBlock = record { block = s.block; as4 = s.as4; list = l } in x) g

same_route : (a b : Option AttributeBlock) → IsRead a → IsRead b → SameBytes a b → a ≡ b
unfolding fine
same_route None None x y e = refl
same_route None (Some s) x y e = absurd e
same_route (Some r) None x y e = absurd e
same_route (Some r) (Some s) x y e =
    let lists : fine r.list ≡ fine s.list = sym x ∙ ap (λ b. attributes_in r.as4 b) e.0 ∙ ap (λ w. attributes_in w s.block) e.1 ∙ y in
    ap (λ r. let o : Option AttributeBlock = Some r in o) (block_is r s e.0 e.1 (same_list r.list s.list lists))

scene_is : (a b : Scene) → a.prefix ≡ b.prefix → a.received ≡ b.received → a.sent ≡ b.sent → a ≡ b
scene_is a b e f g =
    ap (λ p. let x : Scene = record { prefix = p; received = a.received; sent = a.sent } in x) e
    ∙ ap (λ r. let x : Scene = record { prefix = b.prefix; received = r; sent = a.sent } in x) f
    ∙ ap (λ r. let x : Scene = record { prefix = b.prefix; received = b.received; sent = r } in x) g

pub by_bytes : (ns : List Neighbour) (a b : Scene) (form : Typing) (things : List Thing) → IsScene a → IsScene b → SameScene a b
    → holds_where ns a form things ≡ holds_where ns b form things
by_bytes ns a b form things x y s =
    let received : a.received ≡ b.received = fun_ext λ n. same_route (a.received n) (b.received n) (x.received n) (y.received n) (s.received n) in
    let sent : a.sent ≡ b.sent = fun_ext λ n. same_route (a.sent n) (b.sent n) (x.sent n) (y.sent n) (s.sent n) in
    ap (λ s. holds_where ns s form things) (scene_is a b s.prefix received sent)
