use Rattle.nr_laws_rules.proofs.Files.{refusal_is_first}
use Rattle.nr_laws_rules.proofs.refusal.named_token_is_first_refused.Goals as goal

pub returns : goal.returns
returns c = refusal_is_first
