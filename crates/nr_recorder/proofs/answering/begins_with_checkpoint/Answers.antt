use Rattle.std.proofs.Common.{◌∙◌, ap, sym}
use Rattle.nr_recorder.proofs.answering.begins_with_checkpoint.Goals as goal
use Rattle.nr_recorder.proofs.Behind.{begins, is_first}

pub returns-in-Some : goal.returns-in-Some
returns-in-Some c = c.is_checkpoint.ensures ∙ sym (begins c.args.entries.now ∙ ap is_first (sym c.get.ensures ∙ c.in-Some.is))

pub returns-in-None : goal.returns-in-None
returns-in-None c = sym (begins c.args.entries.now ∙ ap is_first (sym c.get.ensures ∙ c.in-None.is))
