use Rattle.nr_laws_files.proofs.PartBytes.{answer_spelled, auths_spelled}
use Rattle.nr_laws_files.proofs.parts.parts_that_are_bytes_are_spelled_in_bytes.Goals as goal

pub returns-clause-authenticators : goal.returns-clause-authenticators
returns-clause-authenticators c = auths_spelled

pub returns-clause-answers : goal.returns-clause-answers
returns-clause-answers c = answer_spelled
