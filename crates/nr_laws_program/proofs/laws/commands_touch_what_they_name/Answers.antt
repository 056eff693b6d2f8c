use Rattle.nr_laws_program.proofs.FileLaws.{touches_named}
use Rattle.nr_laws_program.proofs.laws.commands_touch_what_they_name.Goals as goal

pub returns : goal.returns
returns c = touches_named
