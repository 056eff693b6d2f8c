-- What this crate's types stand for in the definitions.
use Rattle.std.specs.Prelude.{map, option_map}
use Rattle.nr_words.specs.Grammar as grammar
use Rattle.nr_words.specs.declared.grammar.OptionRule as declared_option
use Rattle.nr_words.specs.declared.grammar.Grammar as declared_grammar
use Rattle.nr_words.specs.declared.grammar.Values as declared_values

abbrev pub option_of : declared_option.OptionRule → grammar.OptionRule
option_of o = record { name = o.name.now; required = o.required }

abbrev pub grammar_of : declared_grammar.Grammar → grammar.Grammar
grammar_of g = record { command = g.command.now; options = map option_of g.options.now; files = g.files }

abbrev pub given_by : declared_values.Values → grammar.Values
given_by v = record { options = map (option_map (λ s. s.now)) v.options.items; files = map (λ s. s.now) v.files.items }
