use Rattle.nr_laws_handed.proofs.Accepting.{run_accepts}
use Rattle.nr_laws_handed.proofs.verdicts.verify_accepts_the_evidence_of_an_audit.Goals as goal

pub returns : goal.returns
returns c = run_accepts c.words_are_requests.ensures c.the_verifier_accepts_an_audit.ensures
