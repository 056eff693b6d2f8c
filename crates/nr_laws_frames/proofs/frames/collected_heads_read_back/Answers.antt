use Rattle.nr_laws_frames.proofs.Collected.{heads_again}
use Rattle.nr_laws_frames.proofs.frames.collected_heads_read_back.Goals as goal

pub returns : goal.returns
returns c = heads_again
