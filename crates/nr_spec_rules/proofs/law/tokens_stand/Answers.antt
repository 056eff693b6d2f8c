use Rattle.std.proofs.Common.{refl}
use Rattle.std.proofs.lemmas.List.Elements.{All-from_recursion}
use Rattle.nr_spec_rules.specs.Tokens.{tokens_at, tokens_of}
use Rattle.nr_spec_rules.specs.Endings.{StandsIn}
use Rattle.nr_spec_rules.proofs.Standing.{tokens_stand}
use Rattle.nr_spec_rules.proofs.law.tokens_stand.Goals as goal

pub returns : goal.returns
unfolding tokens_at
returns c = λ text. All-from_recursion (StandsIn text) (tokens_of text) (tokens_stand text 0 0 text refl)
