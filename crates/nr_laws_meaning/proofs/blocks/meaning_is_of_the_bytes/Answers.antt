use Rattle.nr_laws_meaning.proofs.ByBytes.{by_bytes}
use Rattle.nr_laws_meaning.proofs.blocks.meaning_is_of_the_bytes.Goals as goal

pub returns : goal.returns
returns c = by_bytes
