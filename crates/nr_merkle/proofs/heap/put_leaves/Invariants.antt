use Rattle.std.proofs.Common.{◌≡◌, ◌∷◌, [], take}
use Rattle.nr_spec_keys.specs.Pieces.{joined}
use Rattle.nr_spec_keys.specs.OneTime.{public_leaf_of}
use Rattle.nr_merkle.proofs.heap.put_leaves.Given as goal

-- The leaves so far are made.
abbrev pub invariant-loop-leaf : goal.invariant-loop-leaf
invariant-loop-leaf l = take l.leaf l.leaves ≡ joined (λ leaf. public_leaf_of l.seed.0 leaf ∷ []) l.leaf
