use Rattle.nr_rule_syntax.proofs.WrittenFiles.{declarations_written}
use Rattle.nr_rule_syntax.proofs.reading.parse.Goals as goal

pub returns-clause-written : goal.returns-clause-written
returns-clause-written c = declarations_written c.args.text.now c.new-tokens.result c.new-tokens.ensures c.in_ok-decls.decls c.declarations.new.tokens c.in_ok-decls.ensures.value
