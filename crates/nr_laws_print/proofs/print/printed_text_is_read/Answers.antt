use Rattle.nr_laws_print.proofs.Back.{printed_is_read}
use Rattle.nr_laws_print.proofs.print.printed_text_is_read.Goals as goal

pub returns : goal.returns
returns c = printed_is_read
