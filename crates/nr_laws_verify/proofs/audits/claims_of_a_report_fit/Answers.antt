use Rattle.nr_laws_verify.proofs.Fits.{claims_fit}
use Rattle.nr_laws_verify.proofs.audits.claims_of_a_report_fit.Goals as goal

pub returns : goal.returns
returns c = claims_fit c.answer_file_found.ensures c.auths_file_found.ensures c.text_says_what_is_declared.ensures
