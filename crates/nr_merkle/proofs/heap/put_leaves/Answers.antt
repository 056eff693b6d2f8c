use Rattle.std.proofs.Common.{ℕ, List, [], ◌∷◌, ◌++◌, ◌<◌, length, arith, sym, ap, ◌∙◌}
use Rattle.std.proofs.lemmas.List.{take_more_set}
use Rattle.nr_spec_keys.specs.Pieces.{joined}
use Rattle.nr_spec_keys.specs.OneTime.{public_leaf_of}
use Rattle.nr_spec_keys.proofs.PieceLemmas.{joined-none, joined-more}
use Rattle.nr_merkle.proofs.heap.put_leaves.Goals as goal

pub loop-leaf-init : goal.loop-leaf-init
loop-leaf-init c = sym (joined-none _)

pub loop-leaf-preserved : goal.loop-leaf-preserved
loop-leaf-preserved c =
    let made = λ (leaf : ℕ). public_leaf_of c.args.seed.now.0 leaf ∷ [] in
    let lt : c.loop-leaf.leaf < length c.loop-leaf.leaves = omega arith in
    take_more_set c.loop-leaf.leaves c.loop-leaf.leaf c.public_leaf.result.0 lt
    ∙ ap (λ (xs : List (List ℕ)). xs ++ c.public_leaf.result.0 ∷ []) c.loop-leaf.invariant
    ∙ ap (λ (x : List ℕ). joined made c.loop-leaf.leaf ++ x ∷ []) c.public_leaf.ensures
    ∙ sym (joined-more made c.loop-leaf.leaf)
