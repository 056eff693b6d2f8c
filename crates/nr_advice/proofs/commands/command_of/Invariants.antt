use Rattle.std.proofs.Common.{◌≡◌, drop}
use Rattle.std.specs.List.{find}
use Rattle.std.specs.Str.{bytes_eq}
use Rattle.nr_advice.proofs.commands.command_of.Given as goal

abbrev pub invariant-loop-command : goal.invariant-loop-command
invariant-loop-command l =
    find (λ command. bytes_eq command.name.now l.name) (drop l.command-index l.commands) ≡ find (λ command. bytes_eq command.name.now l.name) l.commands
