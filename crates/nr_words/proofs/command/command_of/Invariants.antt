-- the command has an argument for each option so far
use Rattle.std.proofs.Common.{◌≡◌, map, take}
use Rattle.clap.specs.Words.{app_of}
use Rattle.nr_words.specs.Grammar.{app_with, option_rule}
use Rattle.nr_words.specs.Views.{option_of}
use Rattle.nr_words.proofs.command.command_of.Given as goal

abbrev pub invariant-loop-option : goal.invariant-loop-option
invariant-loop-option l = app_of l.command ≡ app_with l.grammar.command.now (map option_rule (map option_of (take l.option-index l.grammar.options.now)))
