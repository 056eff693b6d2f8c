use Rattle.nr_laws_verify.proofs.Told.{verdicts_of, verified_by}
use Rattle.nr_laws_verify.proofs.verdicts.values_are_those_of_an_audit.Goals as goal

pub returns : goal.returns
returns c root bytes values =
    let law = c.a_claim_is_true_where_the_report_has_it.ensures.member in
    (verdicts_of law root bytes values, verified_by law root bytes values)
