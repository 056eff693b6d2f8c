use Rattle.nr_laws_crash.proofs.ImageLaws.{torn_image}
use Rattle.nr_laws_crash.proofs.images.written_bytes_may_be_any.Goals as goal

pub returns : goal.returns
returns c = torn_image
