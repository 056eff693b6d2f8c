use Rattle.nr_laws_bgp.proofs.PathQuestions.{among, has}
use Rattle.nr_laws_bgp.proofs.paths.community_is_among_them.Goals as goal

pub returns-clause-among : goal.returns-clause-among
returns-clause-among c = among

pub returns-clause-has : goal.returns-clause-has
returns-clause-has c = has
