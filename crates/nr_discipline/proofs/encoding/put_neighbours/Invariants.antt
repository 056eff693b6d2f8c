use Rattle.nr_discipline.proofs.encoding.put_neighbours.Given as goal
use Rattle.nr_spec_counts.specs.Tallies.{Tally}
use Rattle.nr_spec_counts.specs.Bodies.{tally_piece}
use Rattle.nr_discipline.specs.Kept.{IsKeptOf}
use Rattle.nr_discipline.specs.Hashing.{Grows}
use Rattle.nr_spec_keys.specs.Pieces.{joined}

abbrev pub invariant-loop-n : goal.invariant-loop-n
invariant-loop-n l = (t : Tally) → IsKeptOf t l.counts → Grows l.fn.out.items l.out.items (joined (tally_piece t) l.n)
