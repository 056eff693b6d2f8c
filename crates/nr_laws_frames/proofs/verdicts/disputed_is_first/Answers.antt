use Rattle.nr_laws_frames.proofs.Least.{matched_disputed}
use Rattle.nr_laws_frames.proofs.verdicts.disputed_is_first.Goals as goal

pub returns : goal.returns
returns c = matched_disputed
