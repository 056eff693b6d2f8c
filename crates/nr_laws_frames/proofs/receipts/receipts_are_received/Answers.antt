use Rattle.nr_laws_frames.proofs.Lists.{tight_received}
use Rattle.nr_laws_frames.proofs.receipts.receipts_are_received.Goals as goal

pub returns : goal.returns
returns c = tight_received
