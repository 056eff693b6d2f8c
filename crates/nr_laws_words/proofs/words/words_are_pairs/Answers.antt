use Rattle.nr_laws_words.proofs.Theorem.{given, gives}
use Rattle.nr_laws_words.proofs.words.words_are_pairs.Goals as goal

pub returns : goal.returns
returns c = λ g command words values clear. (gives g clear command words values, given g clear command words values)
