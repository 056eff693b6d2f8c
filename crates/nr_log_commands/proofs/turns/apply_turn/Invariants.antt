use Rattle.std.specs.Prelude.{map}
use Rattle.nr_events.specs.Views.{event_of}
use Rattle.nr_log_commands.proofs.Turning.{IsAfter}
use Rattle.nr_log_commands.proofs.turns.apply_turn.Given as goal

-- what the events that are left append leads to what all of them append
abbrev pub invariant-loop-i : goal.invariant-loop-i
invariant-loop-i l = IsAfter l.fn.core l.core (map event_of l.events) l.i
