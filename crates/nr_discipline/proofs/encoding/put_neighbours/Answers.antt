use Rattle.std.proofs.Common.{subst, arith}
use Rattle.nr_spec_counts.specs.Bodies.{tally_piece}
use Rattle.nr_discipline.specs.Hashing.{Grows}
use Rattle.nr_discipline.proofs.Pieces.{kept_piece}
use Rattle.nr_discipline.proofs.Written.{one_grow}
use Rattle.nr_discipline.proofs.encoding.put_neighbours.Goals as goal

pub loop-n-preserved : goal.loop-n-preserved
loop-n-preserved c = λ t kept.
    one_grow _ _ _ (tally_piece t) c.loop-n.n (c.loop-n.invariant t kept)
    (subst (Grows _ _) (kept_piece t c.args.counts.now c.loop-n.n c.sends.result c.acked.result c.oldest.result kept (omega arith) c.sends.ensures c.acked.ensures c.oldest.ensures) c.in_ok-put_neighbour.ensures)
