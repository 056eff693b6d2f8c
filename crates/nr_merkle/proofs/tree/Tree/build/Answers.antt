use Rattle.std.proofs.Common.{◌≡◌, ℕ, ◌^◌, List, [], ◌∷◌, length, drop, ap, sym, arith, ◌∙◌}
use Rattle.std.proofs.lemmas.List.{with_items_is}
use Rattle.nr_spec_keys.specs.Pieces.{joined}
use Rattle.nr_spec_keys.specs.OneTime.{public_leaf_of}
use Rattle.nr_spec_keys.specs.Trees.{KeyTree, tree_of}
use Rattle.nr_merkle.proofs.tree.Tree.build.Goals as goal

tree : ℕ → List (List ℕ) → KeyTree
tree height leaves = record { height = height; leaves = leaves }

pub returns : goal.returns
unfolding tree_of tree
returns c =
    let made = λ (leaf : ℕ). public_leaf_of c.args.seed.now.0 leaf ∷ [] in
    let size : length c.put_nodes.new.nodes ≡ c.in_ok-nodes.nodes.len = omega (arith, c.put_nodes.ensures.size, c.deref_mut.ensures.len) in
    ap (λ (nodes : List (List ℕ)). tree c.args.height (drop (2 ^ c.args.height) nodes)) (with_items_is c.in_ok-nodes.nodes c.put_nodes.new.nodes size)
    ∙ ap (λ (n : ℕ). tree c.args.height (drop n c.put_nodes.new.nodes)) (sym c.row_start-leaves.ensures)
    ∙ ap (tree c.args.height) c.put_nodes.ensures.leaves
    ∙ ap (λ (n : ℕ). tree c.args.height (joined made n)) c.row_start-leaves.ensures
