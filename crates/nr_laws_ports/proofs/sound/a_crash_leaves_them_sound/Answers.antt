use Rattle.nr_laws_ports.proofs.Calls.{crash_sound}
use Rattle.nr_laws_ports.proofs.sound.a_crash_leaves_them_sound.Goals as goal

pub returns : goal.returns
returns c = crash_sound
