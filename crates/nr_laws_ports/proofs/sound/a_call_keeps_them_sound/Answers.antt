use Rattle.nr_spec_plans.specs.Plans.{Ask, Cut, Sync, Write}
use Rattle.nr_laws_crash.proofs.SoundLaws.{step_sound}
use Rattle.nr_laws_ports.proofs.Calls.{read_keeps}
use Rattle.nr_laws_ports.proofs.sound.a_call_keeps_them_sound.Goals as goal

pub returns-clause-size : goal.returns-clause-size
returns-clause-size c = λ name old new got sound asks other. step_sound other (Ask name) old new got (sound other) asks

pub returns-clause-read_at : goal.returns-clause-read_at
returns-clause-read_at c = read_keeps

pub returns-clause-write_at : goal.returns-clause-write_at
returns-clause-write_at c = λ name at from old new got sound writes other. step_sound other (Write name at from) old new got (sound other) writes

pub returns-clause-cut : goal.returns-clause-cut
returns-clause-cut c = λ name len old new got sound cuts other. step_sound other (Cut name len) old new got (sound other) cuts

pub returns-clause-sync : goal.returns-clause-sync
returns-clause-sync c = λ name old new got sound syncs other. step_sound other (Sync name) old new got (sound other) syncs
