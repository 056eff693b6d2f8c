use Rattle.nr_laws_frames.proofs.FileLaws.{file_takes}
use Rattle.nr_laws_frames.proofs.frames.frames_file_found.Goals as goal

pub returns : goal.returns
returns c = file_takes
