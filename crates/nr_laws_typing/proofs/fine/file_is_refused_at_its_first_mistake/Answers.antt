use Rattle.nr_laws_typing.proofs.Judged.{file_told}
use Rattle.nr_laws_typing.proofs.fine.file_is_refused_at_its_first_mistake.Goals as goal

pub returns : goal.returns
returns c = file_told
