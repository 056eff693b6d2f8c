use Rattle.std.proofs.Common.{◌≡◌, ◌++◌, drop}
use Rattle.std.specs.List.{flat_map}
use Rattle.nr_advice.specs.Commands.{option_text}
use Rattle.nr_advice.proofs.commands.put_options.Given as goal

abbrev pub invariant-loop-option : goal.invariant-loop-option
invariant-loop-option l = l.page ++ flat_map option_text (drop l.option-index l.options) ≡ l.fn.page ++ flat_map option_text l.options
