use Rattle.nr_laws_promises.proofs.Exactly.{exactly}
use Rattle.nr_laws_promises.proofs.broken.no_others_are_broken.Goals as goal

pub returns : goal.returns
returns c = exactly
