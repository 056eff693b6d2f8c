use Rattle.std.proofs.Common.{◌≡◌, ◌∷◌}
use Rattle.sha2.specs.Hashers.{Holds256}
use Rattle.nr_spec_keys.specs.Pieces.{joined}
use Rattle.nr_spec_keys.specs.OneTime.{publics_of}
use Rattle.nr_lamport.proofs.SecretSteps.{before_pair}
use Rattle.nr_lamport.proofs.leaf.public_leaf.Given as goal

-- The hasher holds the public digests of the pairs so far, and the stream stands before the next pair.
abbrev pub invariant-loop : goal.invariant-loop
invariant-loop l = (l.secrets ≡ before_pair l.seed.0 l.leaf l.counter) × Holds256 l.hasher (0 ∷ joined (publics_of l.seed.0 l.leaf) l.counter)
