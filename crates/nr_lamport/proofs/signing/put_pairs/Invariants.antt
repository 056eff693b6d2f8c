use Rattle.std.proofs.Common.{◌≡◌, ◌++◌}
use Rattle.nr_spec_keys.specs.Pieces.{joined}
use Rattle.nr_spec_keys.specs.OneTime.{shown_of}
use Rattle.nr_lamport.proofs.SecretSteps.{before_pair}
use Rattle.nr_lamport.proofs.signing.put_pairs.Given as goal

-- The pairs so far stand after what was there, and the stream stands before the next pair.
abbrev pub invariant-loop-i : goal.invariant-loop-i
invariant-loop-i l = (l.secrets ≡ before_pair l.seed.0 l.leaf l.i) × (l.out.items ≡ l.fn.out.items ++ joined (shown_of l.seed.0 l.leaf l.digest.0) l.i)
