use Rattle.nr_laws_bgp.proofs.GrammarMessages.{message_found}
use Rattle.nr_laws_bgp.proofs.grammar.read_message_is_a_message.Goals as goal

pub returns : goal.returns
returns c = message_found
