use Rattle.std.proofs.Common.{◌≡◌, ◌++◌, drop}
use Rattle.nr_advice.specs.Commands.{synopsis}
use Rattle.nr_advice.proofs.commands.put_synopsis.Given as goal

abbrev pub invariant-loop-command : goal.invariant-loop-command
invariant-loop-command l = l.page ++ synopsis (drop l.command-index l.commands) ≡ l.fn.page ++ synopsis l.commands
