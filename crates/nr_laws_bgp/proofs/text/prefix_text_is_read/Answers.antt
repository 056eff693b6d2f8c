use Rattle.nr_laws_bgp.proofs.Texts.{text_is_read}
use Rattle.nr_laws_bgp.proofs.text.prefix_text_is_read.Goals as goal

pub returns : goal.returns
returns c = text_is_read
