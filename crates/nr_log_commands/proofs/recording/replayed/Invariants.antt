use Rattle.nr_log_commands.proofs.Replaying.{Replayed}
use Rattle.nr_log_commands.proofs.recording.replayed.Given as goal

abbrev pub invariant-loop-entry : goal.invariant-loop-entry
invariant-loop-entry l = Replayed l.fn.core l.core l.entry-iterator l.store.entries
