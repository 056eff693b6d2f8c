use Rattle.std.proofs.Common.{◌∷◌}
use Rattle.sha2.specs.Hashers.{Holds256}
use Rattle.nr_spec_keys.specs.Pieces.{joined}
use Rattle.nr_spec_keys.specs.OneTime.{publics_from}
use Rattle.nr_lamport.proofs.recomputing.leaf_of.Given as goal

-- The hasher holds the public digests of the pairs so far.
abbrev pub invariant-loop-i : goal.invariant-loop-i
invariant-loop-i l = Holds256 l.hasher (0 ∷ joined (publics_from l.pairs l.digest.0) l.i)
