use Rattle.std.proofs.Common.{◌-◌, arith}
use Rattle.nr_recording.proofs.Order.{soonest-none, soonest-walk}
use Rattle.nr_recording.proofs.merge.soonest.Goals as goal

pub loop-place-init : goal.loop-place-init
loop-place-init c = record { within = omega arith; found = soonest-none c.args.sources.now }

pub loop-place-preserved : goal.loop-place-preserved
loop-place-preserved c = record {
  within = omega arith;
  found = soonest-walk c.loop-place.found c.sooner-found.result c.loop-place.place (c.loop-place.place - 1) c.args.sources.now c.index-sources-place.result c.time.result
      (omega arith) (omega arith) c.index-sources-place.is c.time.ensures c.sooner-found.ensures c.loop-place.invariant.found;
}
