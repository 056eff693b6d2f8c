use Rattle.nr_spec_bgp.proofs.Alike.{same_block}
use Rattle.nr_laws_bgp.proofs.reading.block_reads_the_same_anywhere.Goals as goal

pub returns : goal.returns
returns c = same_block
