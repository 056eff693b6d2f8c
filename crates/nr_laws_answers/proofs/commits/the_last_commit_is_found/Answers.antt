use Rattle.nr_laws_answers.proofs.Looking.{found_where_last, none_where_no_commit}
use Rattle.nr_laws_answers.proofs.commits.the_last_commit_is_found.Goals as goal

pub returns-clause-found : goal.returns-clause-found
returns-clause-found c = found_where_last

pub returns-clause-none : goal.returns-clause-none
returns-clause-none c = none_where_no_commit
