use Rattle.nr_laws_ports.proofs.Calls.{listed_sound, put_sound}
use Rattle.nr_laws_ports.proofs.sound.preparing_keeps_them_sound.Goals as goal

pub returns-clause-put : goal.returns-clause-put
returns-clause-put c = put_sound

pub returns-clause-listing : goal.returns-clause-listing
returns-clause-listing c = listed_sound
