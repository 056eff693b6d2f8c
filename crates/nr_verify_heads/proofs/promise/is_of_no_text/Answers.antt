use Rattle.std.proofs.Common.{not, ap, ◌∙◌}
use Rattle.nr_verify_heads.proofs.Texts.{of_none}
use Rattle.nr_verify_heads.proofs.promise.is_of_no_text.Goals as goal

pub returns : goal.returns
returns c = ap not c.is_of_some_text.ensures ∙ of_none c.args.digest.now.0 c.args.texts.now
