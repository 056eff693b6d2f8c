use Rattle.nr_laws_evidence.proofs.ClaimLaws.{claims_take}
use Rattle.nr_laws_evidence.proofs.claims.claims_read_spelled.Goals as goal

pub returns : goal.returns
returns c = claims_take
