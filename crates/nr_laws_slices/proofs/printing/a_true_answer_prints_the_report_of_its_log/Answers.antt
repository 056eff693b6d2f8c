use Rattle.nr_laws_slices.proofs.Offered.{run_prints_log}
use Rattle.nr_laws_slices.proofs.printing.a_true_answer_prints_the_report_of_its_log.Goals as goal

pub returns : goal.returns
returns c = run_prints_log c.answer_file_found.ensures c.a_true_answer_has_the_report_of_its_log.ensures.report
