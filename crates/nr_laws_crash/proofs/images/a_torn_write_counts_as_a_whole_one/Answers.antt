use Rattle.nr_laws_crash.proofs.ImageLaws.{within_write}
use Rattle.nr_laws_crash.proofs.images.a_torn_write_counts_as_a_whole_one.Goals as goal

pub returns : goal.returns
returns c = within_write
