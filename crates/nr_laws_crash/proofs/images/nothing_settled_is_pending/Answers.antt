use Rattle.nr_laws_crash.proofs.ImageLaws.{none_pending}
use Rattle.nr_laws_crash.proofs.images.nothing_settled_is_pending.Goals as goal

pub returns : goal.returns
returns c = none_pending
