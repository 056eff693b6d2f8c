use Rattle.nr_verify_rows.proofs.digest.hash_neighbours.Given as goal
use Rattle.nr_spec_counts.specs.Tallies.{Tally}
use Rattle.nr_spec_counts.specs.Bodies.{tally_piece}
use Rattle.nr_verify_counts.specs.Kept.{IsKeptOf}
use Rattle.nr_verify_rows.specs.Hashing.{Takes}
use Rattle.nr_spec_keys.specs.Pieces.{joined}

abbrev pub invariant-loop-n : goal.invariant-loop-n
invariant-loop-n l = (t : Tally) → IsKeptOf t l.counts → Takes l.fn.hasher l.hasher (joined (tally_piece t) l.n)
