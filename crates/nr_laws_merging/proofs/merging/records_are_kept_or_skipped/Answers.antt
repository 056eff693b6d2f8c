use Rattle.nr_laws_merging.proofs.Cutting.{kept_or_skipped}
use Rattle.nr_laws_merging.proofs.merging.records_are_kept_or_skipped.Goals as goal

pub returns : goal.returns
returns c = kept_or_skipped
