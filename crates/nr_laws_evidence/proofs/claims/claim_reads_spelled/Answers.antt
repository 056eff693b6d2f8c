use Rattle.nr_laws_evidence.proofs.ClaimLaws.{claim_takes}
use Rattle.nr_laws_evidence.proofs.claims.claim_reads_spelled.Goals as goal

pub returns : goal.returns
returns c = claim_takes
