use Rattle.nr_laws_ports.proofs.Calls.{none_sound}
use Rattle.nr_laws_ports.proofs.sound.no_files_are_sound.Goals as goal

pub returns : goal.returns
returns c = none_sound
