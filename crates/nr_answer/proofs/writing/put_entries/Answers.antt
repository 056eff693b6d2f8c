use Rattle.std.proofs.Common.{sym, ◌∙◌, arith}
use Rattle.nr_answer.proofs.Written.{entry_fits, none_given, written_more}
use Rattle.nr_answer.proofs.writing.put_entries.Goals as goal

pub put_entry-requires : goal.put_entry-requires
put_entry-requires c = (entry_fits 0 c.args.entries.now c.loop-i.i c.in-Some.e c.requires (sym c.get.ensures ∙ c.in-Some.is)).content

pub unreachable-requires : goal.unreachable-requires
unreachable-requires c = none_given c.args.entries.now c.loop-i.i (omega (arith, c.loop-i-test.true, c.len-i-end.ensures)) (sym c.get.ensures ∙ c.in-None.is)

pub loop-i-preserved : goal.loop-i-preserved
loop-i-preserved c = written_more c.args.entries.now c.loop-i.i c.in-Some.e c.loop-i.out.items c.put_entry.new.out.items _ (sym c.get.ensures ∙ c.in-Some.is) c.in_ok-put_entry-in-Some.ensures c.loop-i.invariant
