use Rattle.std.proofs.Common.{rules, ◌∙◌, arith}
use Rattle.nr_ports.proofs.Pieces.{took_on, offers_front}
use Rattle.nr_ports.proofs.whole.write_all.Goals as goal

pub loop-at-preserved : goal.loop-at-preserved
loop-at-preserved g c = record {
  within = search rules;
  taken = c.in-Ok.ensures.2 ∙ took_on c.args.text.now c.loop-at.at c.in-Ok.n _ _ (omega arith) c.loop-at.invariant.taken;
}

pub returns-in-Err : goal.returns-in-Err
returns-in-Err g c = offers_front c.args.text.now c.loop-at.at c.in-Err.fault _ _ _ (omega arith) c.loop-at.invariant.taken c.in-Err.ensures
