use Rattle.nr_laws_meaning.proofs.Asked.{numbers, ends, counts, absent}
use Rattle.nr_laws_meaning.proofs.questions.questions_are_of_their_attributes.Goals as goal

pub returns-clause-numbers : goal.returns-clause-numbers
returns-clause-numbers c = numbers

pub returns-clause-ends : goal.returns-clause-ends
returns-clause-ends c = ends

pub returns-clause-counts : goal.returns-clause-counts
returns-clause-counts c = counts

pub returns-clause-absent : goal.returns-clause-absent
returns-clause-absent c = absent
