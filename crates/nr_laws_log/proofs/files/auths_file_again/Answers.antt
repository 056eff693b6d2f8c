use Rattle.nr_laws_log.proofs.RowLaws.{file_again}
use Rattle.nr_laws_log.proofs.files.auths_file_again.Goals as goal

pub returns : goal.returns
returns c = file_again
