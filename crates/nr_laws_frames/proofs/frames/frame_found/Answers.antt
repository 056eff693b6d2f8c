use Rattle.nr_laws_frames.proofs.FrameLaws.{frame_takes}
use Rattle.nr_laws_frames.proofs.frames.frame_found.Goals as goal

pub returns : goal.returns
returns c = frame_takes
