use Rattle.nr_laws_answers.proofs.Whole.{answered, entries_answered, none_answered}
use Rattle.nr_laws_answers.proofs.answers.a_whole_answer_ends_with_the_last_commit.Goals as goal

pub returns-clause-none : goal.returns-clause-none
returns-clause-none c = none_answered

pub returns-clause-some : goal.returns-clause-some
returns-clause-some c = answered

pub returns-clause-entries : goal.returns-clause-entries
returns-clause-entries c = entries_answered
