use Rattle.nr_log_commands.specs.Walking.{Sealed}
use Rattle.nr_log_commands.proofs.answering.seal_in.Given as goal

abbrev pub invariant-loop-entry : goal.invariant-loop-entry
invariant-loop-entry l = Sealed l.asn l.store.entries l.entry-iterator l.sealing
