use Rattle.std.proofs.Common.{ℕ, ◌+◌, ◌∙◌, ap}
use Rattle.nr_chain.specs.Views.{entry_of}
use Rattle.nr_spec_log.specs.Chain.{Chain}
use Rattle.nr_recorder.proofs.links.walk_to.Goals as goal
use Rattle.nr_recorder.proofs.Linking.{walked_more}

pub loop-place-preserved : goal.loop-place-preserved
loop-place-preserved c = record {
  value = λ asn start. walked_more asn c.args.log.now c.loop-place.walk c.push.new.self c.loop-place.place (entry_of c.at.result) (c.loop-place.invariant.value asn start) c.loop-place.invariant.seq c.at.ensures c.push.ensures.walk;
  seq = ap (λ (w : Chain). w.seq) c.push.ensures.walk ∙ ap (λ (k : ℕ). k + 1) c.loop-place.invariant.seq;
}
