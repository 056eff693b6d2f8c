use Rattle.nr_laws_answers.proofs.Signed.{whole_has_leaf, whole_is_among}
use Rattle.nr_laws_answers.proofs.heads.its_head_is_what_the_last_commit_signs.Goals as goal

pub returns-clause-leaf : goal.returns-clause-leaf
returns-clause-leaf c = whole_has_leaf

pub returns-clause-among : goal.returns-clause-among
returns-clause-among c = whole_is_among
