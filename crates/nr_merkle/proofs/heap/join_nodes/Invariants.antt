use Rattle.std.proofs.Common.{◌≡◌, length, drop}
use Rattle.nr_merkle.specs.Heap.{IsJoined}
use Rattle.nr_merkle.proofs.heap.join_nodes.Given as goal

-- The nodes from here on are made of those below them, and the leaves are as they were.
abbrev pub invariant-loop-k : goal.invariant-loop-k
invariant-loop-k l = IsJoined l.k l.leaves l.nodes × ((length l.nodes ≡ length l.fn.nodes) × (drop l.leaves l.nodes ≡ drop l.leaves l.fn.nodes))
