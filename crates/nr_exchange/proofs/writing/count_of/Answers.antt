use Rattle.std.proofs.Common.{◌∙◌}
use Rattle.nr_exchange.proofs.Written.{count_is}
use Rattle.nr_exchange.proofs.writing.count_of.Goals as goal

pub returns : goal.returns
returns c = c.len.ensures ∙ count_is c.args.items.now
