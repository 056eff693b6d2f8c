use Rattle.nr_laws_print.proofs.Back.{written_is_read_back}
use Rattle.nr_laws_print.proofs.print.written_file_is_read_back.Goals as goal

pub returns : goal.returns
returns c = written_is_read_back
