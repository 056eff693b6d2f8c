use Rattle.std.proofs.Common.{◌+◌, length, map, arith}
use Rattle.std.proofs.lemmas.List.{length-map}
use Rattle.std.proofs.lemmas.Result.{err_from_is_err_and}
use Rattle.nr_events.specs.Views.{event_of}
use Rattle.nr_recording.proofs.Turns.{IsTurn, turn-full, turn-last, lost}
use Rattle.nr_recording.proofs.events.Events.next_turn.Goals as goal
use Rattle.nr_recording.proofs.events.Events.next_turn.Goals.{else-loop-test, then-loop-test+in-None}

is_turn : (c : goal.Left-loop) → IsTurn (map event_of c.loop.turn) c.loop-test.self c.args.self.now
is_turn c =
    let size = length-map c.loop.turn event_of in
    elim c.loop-test.branch [
      | else-loop-test w ↦ rw w.self-is (turn-full (map event_of c.loop.turn) c.loop.self c.args.self.now c.loop.invariant.all (omega (arith, size)))
      | then-loop-test+in-None w ↦
          rw w.self-is (turn-last (map event_of c.loop.turn) c.loop.self w.next.new.self c.args.self.now c.loop.invariant.all (omega (arith, size)) w.in-None.ensures.steps.0 w.in-None.ensures.steps.1)
    ]

pub returns-clause-turn : goal.returns-clause-turn
returns-clause-turn c = (is_turn c).first

pub returns-clause-left : goal.returns-clause-left
returns-clause-left c = (is_turn c).others

pub returns-in_err-push-in-Some-clause-memory : goal.returns-in_err-push-in-Some-clause-memory
returns-in_err-push-in-Some-clause-memory c =
    let p = err_from_is_err_and c.from_residual.result c.from_residual.ensures.1 in
    rw p.1 (length (map event_of c.loop.turn) + 1, lost (map event_of c.loop.turn) c.loop.self c.args.self.now (event_of c.in-Some.event) c.next.new.self c.loop.invariant.all c.in-Some.ensures.steps)
