use Rattle.nr_laws_frames.proofs.FileLaws.{file_again}
use Rattle.nr_laws_frames.proofs.frames.frames_file_again.Goals as goal

pub returns : goal.returns
returns c = file_again
