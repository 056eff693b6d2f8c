use Rattle.nr_laws_claims.proofs.Reports.{as_audited}
use Rattle.nr_laws_claims.proofs.claims.a_verifier_refuses_as_an_audit.Goals as goal

pub returns : goal.returns
returns c root files truth answer period auths claims = as_audited root files truth answer period auths claims
