use Rattle.nr_laws_frames.proofs.Accepting.{matches}
use Rattle.nr_laws_frames.proofs.verdicts.accepted_matches.Goals as goal

pub returns : goal.returns
returns c = matches
