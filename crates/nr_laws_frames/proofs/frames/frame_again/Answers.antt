use Rattle.nr_laws_frames.proofs.FrameLaws.{frame_again}
use Rattle.nr_laws_frames.proofs.frames.frame_again.Goals as goal

pub returns : goal.returns
returns c = frame_again
