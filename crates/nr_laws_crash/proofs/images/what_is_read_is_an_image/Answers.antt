use Rattle.nr_laws_crash.proofs.SoundLaws.{sound_image}
use Rattle.nr_laws_crash.proofs.images.what_is_read_is_an_image.Goals as goal

pub returns : goal.returns
returns c = sound_image
