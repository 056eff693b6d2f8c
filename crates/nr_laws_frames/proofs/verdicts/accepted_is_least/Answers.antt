use Rattle.nr_laws_frames.proofs.Least.{matched_least, matched_stand}
use Rattle.nr_laws_frames.proofs.verdicts.accepted_is_least.Goals as goal

pub returns-clause-stand : goal.returns-clause-stand
returns-clause-stand c = matched_stand

pub returns-clause-least : goal.returns-clause-least
returns-clause-least c = matched_least
