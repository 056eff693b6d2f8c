use Rattle.nr_spec_report.specs.Claims.{Claim}
use Rattle.nr_laws_claims.specs.Alone.{alone}
use Rattle.nr_laws_claims.proofs.Reports.{all_true, not_of_report, of_report}
use Rattle.nr_laws_claims.proofs.claims.a_claim_is_true_where_the_report_has_it.Goals as goal

pub returns-clause-member : goal.returns-clause-member
returns-clause-member c root files truth base answer period claim =
    (of_report root files truth base answer period claim, all_true root files truth base answer period (alone claim) claim)

pub returns-clause-no_other : goal.returns-clause-no_other
returns-clause-no_other c root files truth base answer period claim = not_of_report root files truth base answer period claim
