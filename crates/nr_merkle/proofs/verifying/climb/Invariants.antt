use Rattle.std.proofs.Common.{◌≡◌}
use Rattle.nr_spec_keys.specs.Trees.{climbed}
use Rattle.nr_merkle.proofs.verifying.climb.Given as goal

abbrev pub invariant-loop-level : goal.invariant-loop-level
invariant-loop-level l = l.digest.0 ≡ climbed l.fn.leaf_digest.0 l.path l.leaf l.level
