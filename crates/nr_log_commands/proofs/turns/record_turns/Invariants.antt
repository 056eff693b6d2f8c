use Rattle.std.specs.Prelude.{length}
use Rattle.nr_recorder.specs.Kept.{recorder_of}
use Rattle.nr_log_commands.specs.Turning.{no_frames}
use Rattle.nr_log_commands.proofs.Turning.{HasTurns}
use Rattle.nr_log_commands.proofs.turns.record_turns.Given as goal

-- what is left of the events leads to the end of all of them
abbrev pub invariant-loop-events : goal.invariant-loop-events
invariant-loop-events g l = HasTurns l.name (recorder_of no_frames l.fn.core) (g.F.Files.disk l.fn.files) (g.F.Files.disk l.files) l.fn.store l.store l.core l.fn.events l.events

abbrev pub decreases-loop-events : goal.decreases-loop-events
decreases-loop-events g l = length l.events
