use Rattle.std.proofs.Common.{take}
use Rattle.nr_chain.specs.Views.{entry_of}
use Rattle.nr_recorder.proofs.starting.replay.Goals as goal
use Rattle.nr_recorder.proofs.Booking.{room_commits, room_sends}
use Rattle.nr_recorder.proofs.Replaying.{few_taken, first_counts, first_routes, next_counts, next_routes}

pub loop-place-init : goal.loop-place-init
loop-place-init c = record {
  routes = first_routes c.new-state.result c.new-state.ensures;
  counts = first_counts c.args.counts.now c.requires.nothing;
}

pub step-requires-in-loop-place-clause-sends : goal.step-requires-in-loop-place-clause-sends
step-requires-in-loop-place-clause-sends c =
    room_sends (take c.loop-place.place c.args.log.now) c.loop-place.counts c.loop-place.invariant.counts (few_taken c.args.log.now c.loop-place.place c.requires.room)

pub step-requires-in-loop-place-clause-commits : goal.step-requires-in-loop-place-clause-commits
step-requires-in-loop-place-clause-commits c =
    room_commits (take c.loop-place.place c.args.log.now) c.loop-place.counts c.loop-place.invariant.counts (few_taken c.args.log.now c.loop-place.place c.requires.room)

pub loop-place-preserved : goal.loop-place-preserved
loop-place-preserved c = record {
  routes =
      next_routes c.args.log.now c.loop-place.place (entry_of c.at-entry.result) c.loop-place.state c.in_ok-state.state
      c.at-entry.ensures c.loop-place.invariant.routes c.in_ok-state.ensures.rows;
  counts =
      next_counts c.args.log.now c.loop-place.place (entry_of c.at-entry.result) c.loop-place.counts c.step-in-loop-place.new.self
      c.at-entry.ensures c.loop-place.invariant.counts c.step-in-loop-place.ensures;
}
