use Rattle.std.proofs.Common.{◌≡◌, ◌++◌, length, map}
use Rattle.nr_events.specs.Views.{event_of}
use Rattle.nr_recording.proofs.events.Events.next_turn.Given as goal

-- The events of the turn so far, and those that are left, are all that were left before.
abbrev pub invariant-loop : goal.invariant-loop
invariant-loop l = record { count : length l.turn ≡ l.counter; all : map event_of l.turn ++ l.self ≡ l.initial.self }
