use Rattle.nr_laws_started.proofs.Refused.{started_fine}
use Rattle.nr_laws_started.proofs.heads.a_started_answer_is_not_refused_for_its_head.Goals as goal

pub returns : goal.returns
returns c =
    started_fine c.a_whole_answer_is_not_refused_for_its_head.ensures.outcome c.a_started_answer_is_true.ensures
    c.a_true_answer_has_the_report_of_its_log.ensures.outcome c.a_whole_answer_is_audited_from_nothing.ensures
