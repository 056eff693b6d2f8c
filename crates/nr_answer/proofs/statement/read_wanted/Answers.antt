use Rattle.std.proofs.Common.{ap, ◌∙◌}
use Rattle.nr_spec_wire.specs.Reading.{Spot, between}
use Rattle.nr_answer.specs.Views.{statement_of, wanted_of}
use Rattle.nr_answer.proofs.Spelled.{spelled}
use Rattle.nr_answer.proofs.statement.read_wanted.Goals as goal

-- src/statement.rt:128:5
pub invariant_of-result : goal.invariant_of-result
invariant_of-result c = record {
  spelled = c.since-whole.ensures
      ∙ ap (λ (s : Spot). between s c.read_statement.new.cursor) c.fork-start.ensures.same
      ∙ spelled (wanted_of c.args.wanted) c.args.cursor.now (statement_of c.in_ok-statement.statement) c.read_statement.new.cursor c.fork-start.ensures.bytes c.in_ok-statement.ensures.value;
}
