use Rattle.nr_laws_frames.proofs.Accepting.{in_bounds}
use Rattle.nr_laws_frames.proofs.verdicts.accepted_in_bounds.Goals as goal

pub returns : goal.returns
returns c = in_bounds
