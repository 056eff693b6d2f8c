use Rattle.nr_laws_bgp.proofs.GrammarMessages.{message_again}
use Rattle.nr_laws_bgp.proofs.grammar.message_is_read.Goals as goal

pub returns : goal.returns
returns c = message_again
