use Rattle.nr_laws_verify.proofs.Back.{evidence_fits, read_back}
use Rattle.nr_laws_verify.proofs.audits.evidence_of_an_audit_reads_back.Goals as goal

pub returns-clause-fits : goal.returns-clause-fits
returns-clause-fits c = evidence_fits c.claims_of_a_report_fit.ensures

pub returns-clause-again : goal.returns-clause-again
returns-clause-again c = read_back c.claims_of_a_report_fit.ensures c.evidence_file_again.ensures
