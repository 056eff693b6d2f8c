use Rattle.nr_laws_evidence.proofs.ClaimLaws.{claims_again}
use Rattle.nr_laws_evidence.proofs.claims.claims_spelled_read.Goals as goal

pub returns : goal.returns
returns c = claims_again
