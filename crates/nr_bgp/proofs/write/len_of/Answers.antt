use Rattle.std.proofs.Common.{arith}
use Rattle.std.proofs.lemmas.Grind.{common_steps}
use Rattle.nr_spec_bgp.specs.Prefixes.{IsCidr}
use Rattle.nr_bgp.proofs.Elements.{all_more}
use Rattle.nr_bgp.proofs.write.len_of.Goals as goal

pub loop-p-preserved : goal.loop-p-preserved
loop-p-preserved c = record {
  value = grind (arith, common_steps);
  bound = grind (arith, common_steps);
  cidrs = all_more IsCidr c.args.prefixes.now c.loop-p.p-index c.p-item.result c.loop-p-test.true c.p-item.is c.len.ensures.cidr c.loop-p.invariant.cidrs;
}
