use Rattle.std.proofs.Common.{arith}
use Rattle.nr_recorder.proofs.links.known_at.Goals as goal
use Rattle.nr_recorder.proofs.Linking.{value_kept}

pub returns-else-count-eq0 : goal.returns-else-count-eq0
returns-else-count-eq0 c = λ log are. value_kept c.args.asn log c.args.values.now c.args.count _ (omega (arith, c.if-count-eq0.false)) c.requires are
