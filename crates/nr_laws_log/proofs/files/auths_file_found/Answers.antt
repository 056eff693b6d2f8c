use Rattle.nr_laws_log.proofs.RowLaws.{file_takes}
use Rattle.nr_laws_log.proofs.files.auths_file_found.Goals as goal

pub returns : goal.returns
returns c = file_takes
