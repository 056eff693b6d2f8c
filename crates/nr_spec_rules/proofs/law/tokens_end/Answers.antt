use Rattle.nr_spec_rules.specs.Tokens.{tokens_at}
use Rattle.nr_spec_rules.proofs.Ended.{tokens_ended}
use Rattle.nr_spec_rules.proofs.law.tokens_end.Goals as goal

pub returns : goal.returns
unfolding tokens_at
returns c = λ text. tokens_ended 0 0 text
