use Rattle.nr_laws_bgp.proofs.Texts.{read_is_text}
use Rattle.nr_laws_bgp.proofs.text.read_text_is_a_prefix.Goals as goal

pub returns : goal.returns
returns c = read_is_text
