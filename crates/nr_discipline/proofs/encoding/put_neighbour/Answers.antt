use Rattle.std.proofs.Common.{◌++◌}
use Rattle.byteorder.specs.Endian.{big_bytes}
use Rattle.nr_spec_counts.specs.Bodies.{oldest_bytes}
use Rattle.nr_discipline.proofs.Written.{both_grow}
use Rattle.nr_discipline.proofs.encoding.put_neighbour.Goals as goal

pub returns : goal.returns
returns c =
    let sends = big_bytes 8 c.args.sends in
    let acked = big_bytes 8 c.args.acked in
    let oldest = oldest_bytes c.args.oldest in
    both_grow _ _ _ sends (acked ++ oldest) c.in_ok-put_u64.ensures (both_grow _ _ _ acked oldest c.in_ok-put_u64-2.ensures c.in_ok-put_oldest.ensures)
