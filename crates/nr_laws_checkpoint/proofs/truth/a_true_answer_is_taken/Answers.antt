use Rattle.nr_laws_checkpoint.proofs.Taken.{digest_in_time, last_in_time}
use Rattle.nr_laws_checkpoint.proofs.truth.a_true_answer_is_taken.Goals as goal

pub returns-clause-last : goal.returns-clause-last
returns-clause-last c = last_in_time

pub returns-clause-late : goal.returns-clause-late
returns-clause-late c = digest_in_time
