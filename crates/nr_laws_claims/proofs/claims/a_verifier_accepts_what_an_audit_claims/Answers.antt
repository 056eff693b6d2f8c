use Rattle.nr_laws_claims.proofs.Reports.{all_accepted}
use Rattle.nr_laws_claims.proofs.claims.a_verifier_accepts_what_an_audit_claims.Goals as goal

pub returns : goal.returns
returns c root files truth answer period auths report = all_accepted root files truth answer period auths report
