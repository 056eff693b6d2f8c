use Rattle.std.proofs.Common.{map}
use Rattle.nr_chain.specs.Views.{entry_of}
use Rattle.nr_log_commands.specs.Walking.{Taken}
use Rattle.nr_log_commands.proofs.answering.first_entries.Given as goal

abbrev pub invariant-loop-entry : goal.invariant-loop-entry
invariant-loop-entry l = Taken l.store.entries (map entry_of l.entries) l.entry-iterator l.left l.count
