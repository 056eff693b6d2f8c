use Rattle.std.proofs.Common.{◌≡◌}
use Rattle.nr_spec_recording.specs.Events.{too_long}
use Rattle.nr_recording.proofs.merge.first_too_long.Given as goal

-- None of the messages so far is too long.
abbrev pub invariant-loop-event : goal.invariant-loop-event
invariant-loop-event l =
    (goal.iterator-loop-event).can_next l.left × (goal.iterator-loop-event).is_finite l.left × (too_long l.left ≡ too_long l.initial.left)
