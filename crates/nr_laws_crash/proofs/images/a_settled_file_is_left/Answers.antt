use Rattle.nr_laws_crash.proofs.ImageLaws.{settled_image}
use Rattle.nr_laws_crash.proofs.images.a_settled_file_is_left.Goals as goal

pub returns : goal.returns
returns c = settled_image
