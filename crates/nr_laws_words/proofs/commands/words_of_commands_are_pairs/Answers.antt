use Rattle.std.proofs.Common.{refl}
use Rattle.nr_spec_commands.specs.Words.{answer_grammar, audit_grammar, check_grammar, collect_grammar, keygen_grammar, record_grammar, verify_grammar}
use Rattle.nr_laws_words.proofs.Theorem.{given, gives}
use Rattle.nr_laws_words.proofs.commands.words_of_commands_are_pairs.Goals as goal

pub returns : goal.returns
returns c = record {
  audit = λ words values. (gives audit_grammar refl audit_grammar.command words values, given audit_grammar refl audit_grammar.command words values);
  keygen = λ words values. (gives keygen_grammar refl keygen_grammar.command words values, given keygen_grammar refl keygen_grammar.command words values);
  check = λ words values. (gives check_grammar refl check_grammar.command words values, given check_grammar refl check_grammar.command words values);
  recording = λ words values. (gives record_grammar refl record_grammar.command words values, given record_grammar refl record_grammar.command words values);
  answer = λ words values. (gives answer_grammar refl answer_grammar.command words values, given answer_grammar refl answer_grammar.command words values);
  verify = λ words values. (gives verify_grammar refl verify_grammar.command words values, given verify_grammar refl verify_grammar.command words values);
  collect = λ words values. (gives collect_grammar refl collect_grammar.command words values, given collect_grammar refl collect_grammar.command words values);
}
