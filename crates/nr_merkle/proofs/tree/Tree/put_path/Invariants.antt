use Rattle.std.proofs.Common.{◌≡◌, ◌++◌, ◌/◌, ◌^◌}
use Rattle.nr_spec_keys.specs.Pieces.{joined}
use Rattle.nr_spec_keys.specs.Trees.{node_at, sibling}
use Rattle.nr_merkle.proofs.tree.Tree.put_path.Given as goal

-- The digests so far stand after what was there.
abbrev pub invariant-loop-level : goal.invariant-loop-level
invariant-loop-level l = l.out.items ≡ l.fn.out.items ++ joined (λ level. node_at l.self.leaves level (sibling (l.leaf / 2 ^ level))) l.level
