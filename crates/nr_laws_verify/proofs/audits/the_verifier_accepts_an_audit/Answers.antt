use Rattle.nr_laws_verify.proofs.Accepted.{accepted}
use Rattle.nr_laws_verify.proofs.audits.the_verifier_accepts_an_audit.Goals as goal

pub returns : goal.returns
returns c = accepted c.evidence_of_an_audit_reads_back.ensures.again c.a_verifier_accepts_what_an_audit_claims.ensures
