use Rattle.nr_laws_answers.proofs.Signed.{whole_ends_chain, whole_is_not_refused, whole_is_signed}
use Rattle.nr_laws_answers.proofs.heads.a_whole_answer_is_not_refused_for_its_head.Goals as goal

pub returns-clause-signed : goal.returns-clause-signed
returns-clause-signed c = whole_is_signed

pub returns-clause-chain : goal.returns-clause-chain
returns-clause-chain c = whole_ends_chain

pub returns-clause-outcome : goal.returns-clause-outcome
returns-clause-outcome c = whole_is_not_refused
