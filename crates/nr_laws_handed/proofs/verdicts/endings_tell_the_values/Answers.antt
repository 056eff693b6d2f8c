use Rattle.nr_laws_handed.proofs.Values.{all_accepted, all_are_true, one_is_false}
use Rattle.nr_laws_handed.proofs.verdicts.endings_tell_the_values.Goals as goal

pub returns-clause-accepted : goal.returns-clause-accepted
returns-clause-accepted c = all_accepted

pub returns-clause-one_is_false : goal.returns-clause-one_is_false
returns-clause-one_is_false c = one_is_false

pub returns-clause-all_are_true : goal.returns-clause-all_are_true
returns-clause-all_are_true c = all_are_true
