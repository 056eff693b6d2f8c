use Rattle.nr_laws_files.proofs.PartBytes.{answer_parts, auths_parts}
use Rattle.nr_laws_files.proofs.parts.parts_that_are_read_are_bytes.Goals as goal

pub returns-clause-authenticators : goal.returns-clause-authenticators
returns-clause-authenticators c = auths_parts

pub returns-clause-answers : goal.returns-clause-answers
returns-clause-answers c = answer_parts
