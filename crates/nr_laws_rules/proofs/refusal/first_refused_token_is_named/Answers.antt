use Rattle.nr_laws_rules.proofs.Files.{first_is_refusal}
use Rattle.nr_laws_rules.proofs.refusal.first_refused_token_is_named.Goals as goal

pub returns : goal.returns
returns c = first_is_refusal
