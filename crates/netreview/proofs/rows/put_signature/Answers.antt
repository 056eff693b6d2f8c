-- The tree that was built is the seed's, of height 1.
use Rattle.std.proofs.Common.{◌≡◌, ℕ, sym, ap, ◌∙◌, arith}
use Rattle.nr_spec_keys.specs.Trees.{KeyTree, tree_of}
use Rattle.netreview.proofs.rows.put_signature.Goals as goal

pub sign-requires-clause-of_seed : goal.sign-requires-clause-of_seed
unfolding tree_of
sign-requires-clause-of_seed c =
    let one : c.in_ok-tree.tree.height ≡ 1 = ap (λ (t : KeyTree). t.height) c.in_ok-tree.ensures in
    c.in_ok-tree.ensures ∙ ap (λ (h : ℕ). tree_of c.args.seed.now.0 h) (sym one)

pub sign-requires-clause-in_tree : goal.sign-requires-clause-in_tree
unfolding tree_of
sign-requires-clause-in_tree c =
    let one : c.in_ok-tree.tree.height ≡ 1 = ap (λ (t : KeyTree). t.height) c.in_ok-tree.ensures in
    rw one (omega arith)
