use Rattle.nr_laws_claims.proofs.Reports.{all_true}
use Rattle.nr_laws_claims.proofs.claims.claims_of_a_report_are_true.Goals as goal

pub returns : goal.returns
returns c root files truth base answer period auths claim = all_true root files truth base answer period auths claim
