use Rattle.std.proofs.Common.{length, map, sym, ◌∙◌, arith}
use Rattle.std.specs.List.{flat_map}
use Rattle.nr_spec_log.specs.Answer.{entry}
use Rattle.nr_chain.specs.Views.{entry_of}
use Rattle.nr_answer.proofs.Written.{all_bound, none_given, size_more}
use Rattle.nr_answer.proofs.writing.entries_size.Goals as goal

pub overflow_add-size-in-Some : goal.overflow_add-size-in-Some
overflow_add-size-in-Some c =
    let more = size_more c.args.entries.now c.loop-i.i c.in-Some.entry c.loop-i.size (length (flat_map entry (map entry_of c.args.entries.now))) (sym c.get.ensures ∙ c.in-Some.is) c.loop-i.invariant in
    omega (arith, more, all_bound c.args.entries.now c.requires.fit c.requires.count)

pub unreachable-requires : goal.unreachable-requires
unreachable-requires c = none_given c.args.entries.now c.loop-i.i (omega (arith, c.loop-i-test.true, c.len-i-end.ensures)) (sym c.get.ensures ∙ c.in-None.is)

pub loop-i-preserved : goal.loop-i-preserved
loop-i-preserved c =
    size_more c.args.entries.now c.loop-i.i c.in-Some.entry c.loop-i.size (length (flat_map entry (map entry_of c.args.entries.now))) (sym c.get.ensures ∙ c.in-Some.is) c.loop-i.invariant

pub returns-clause-bound : goal.returns-clause-bound
returns-clause-bound c = omega (arith, c.loop-i.invariant, all_bound c.args.entries.now c.requires.fit c.requires.count)
