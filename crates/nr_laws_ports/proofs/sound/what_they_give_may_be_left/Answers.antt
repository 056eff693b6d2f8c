use Rattle.nr_laws_crash.proofs.SoundLaws.{sound_image}
use Rattle.nr_laws_ports.proofs.sound.what_they_give_may_be_left.Goals as goal

pub returns : goal.returns
returns c = λ name d t sound told. sound_image name d t (sound name) told
