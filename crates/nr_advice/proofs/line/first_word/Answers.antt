use Rattle.std.proofs.Common.{Some, None}
use Rattle.nr_advice.proofs.Split.{worded}
use Rattle.nr_advice.proofs.line.first_word.Goals as goal

pub returns-in-Some : goal.returns-in-Some
returns-in-Some c = worded c.args.text.now (Some (c.in-Some.word, c.in-Some.field-0-1)) c.in-Some.ensures.cases

pub returns-in-None : goal.returns-in-None
returns-in-None c = worded c.args.text.now None c.in-None.ensures.cases
