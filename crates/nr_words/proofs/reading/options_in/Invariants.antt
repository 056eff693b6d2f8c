-- each option so far has its value
use Rattle.std.proofs.Common.{◌≡◌, map, take, option_map}
use Rattle.clap.specs.Words.{found_of, rows_of}
use Rattle.nr_words.specs.Grammar.{options_in}
use Rattle.nr_words.specs.Views.{option_of}
use Rattle.nr_words.proofs.reading.options_in.Given as goal

abbrev pub invariant-loop-option : goal.invariant-loop-option
invariant-loop-option l = map (option_map (λ s. s.now)) l.values.items ≡ options_in (map option_of (take l.option-index l.options)) (rows_of (found_of l.matches))
