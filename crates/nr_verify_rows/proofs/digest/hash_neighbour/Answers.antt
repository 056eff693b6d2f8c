use Rattle.std.proofs.Common.{◌++◌}
use Rattle.byteorder.specs.Endian.{big_bytes}
use Rattle.nr_spec_counts.specs.Bodies.{oldest_bytes}
use Rattle.nr_verify_rows.proofs.Pieces.{both}
use Rattle.nr_verify_rows.proofs.digest.hash_neighbour.Goals as goal

pub returns : goal.returns
returns c =
    let sends = big_bytes 8 c.args.sends in
    let acked = big_bytes 8 c.args.acked in
    let oldest = oldest_bytes c.args.oldest in
    both _ _ _ sends (acked ++ oldest) c.hash_u64.ensures (both _ _ _ acked oldest c.hash_u64-2.ensures c.hash_oldest.ensures)
