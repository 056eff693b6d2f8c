use Rattle.std.proofs.Common.{sym, ◌∙◌}
use Rattle.nr_collecting.proofs.Written.{written_more}
use Rattle.nr_collecting.proofs.writing.put_auths.Goals as goal

pub loop-i-preserved : goal.loop-i-preserved
loop-i-preserved c = written_more c.args.auths.now c.loop-i.i c.in-Some.auth _ _ _ (sym c.get.ensures ∙ c.in-Some.is) c.in_ok-put_bytes-in-Some.ensures.ok c.loop-i.invariant
