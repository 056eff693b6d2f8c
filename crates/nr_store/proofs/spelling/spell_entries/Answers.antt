use Rattle.std.proofs.Common.{ℕ, List, ◌++◌, ◌+◌, drop, map, sym, ap, ◌∙◌, append_assoc, arith}
use Rattle.nr_spec_log.specs.Answer.{entry}
use Rattle.nr_spec_store.specs.LogFile.{spelled}
use Rattle.nr_chain.specs.Views.{entry_of}
use Rattle.nr_store.proofs.Sizes.{given, none_given}
use Rattle.nr_store.proofs.spelling.spell_entries.Goals as goal

pub put_entry-requires : goal.put_entry-requires
put_entry-requires c = (given c.args.entries.now c.loop-i.i c.in-Some.e (sym c.get.ensures ∙ c.in-Some.is)).size c.requires

pub unreachable-requires : goal.unreachable-requires
unreachable-requires c = none_given c.args.entries.now c.loop-i.i (omega (arith, c.loop-i-test.true, c.len-i-end.ensures)) (sym c.get.ensures ∙ c.in-None.is)

pub loop-i-preserved : goal.loop-i-preserved
loop-i-preserved c =
    let g = given c.args.entries.now c.loop-i.i c.in-Some.e (sym c.get.ensures ∙ c.in-Some.is) in
    let rest = spelled (drop (c.loop-i.i + 1) (map entry_of c.args.entries.now)) in
    ap (λ (t : List ℕ). t ++ rest) c.in_ok-put_entry-in-Some.ensures ∙ append_assoc c.loop-i.bytes.items (entry (entry_of c.in-Some.e)) rest ∙ ap (λ (t : List ℕ). c.loop-i.bytes.items ++ t) (sym g.more) ∙ c.loop-i.invariant
