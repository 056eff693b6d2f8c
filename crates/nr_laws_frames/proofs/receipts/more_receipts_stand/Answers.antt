use Rattle.nr_laws_frames.proofs.Lists.{more_stand}
use Rattle.nr_laws_frames.proofs.receipts.more_receipts_stand.Goals as goal

pub returns : goal.returns
returns c = more_stand
