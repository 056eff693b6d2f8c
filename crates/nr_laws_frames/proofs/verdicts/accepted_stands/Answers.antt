use Rattle.nr_laws_frames.proofs.Accepting.{stands}
use Rattle.nr_laws_frames.proofs.verdicts.accepted_stands.Goals as goal

pub returns : goal.returns
returns c = stands
