use Rattle.nr_laws_evidence.proofs.ClaimLaws.{claim_again}
use Rattle.nr_laws_evidence.proofs.claims.claim_spelled_reads.Goals as goal

pub returns : goal.returns
returns c = claim_again
