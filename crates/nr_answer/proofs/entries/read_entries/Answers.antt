use Rattle.std.proofs.Common.{◌≡◌, sym, ap, subst, ◌∙◌, Err, rules}
use Rattle.std.proofs.lemmas.Result.{err_from_is_err_and}
use Rattle.nr_spec_wire.specs.Reading.{Spot, IsBytes}
use Rattle.nr_spec_log.specs.Answer.{entries_at}
use Rattle.nr_spec_log.proofs.EntrySteps.{length-entries, ending-goes, ending-fails, ending-done}
use Rattle.nr_bytes.specs.Views.{offset_of}
use Rattle.nr_chain.specs.Views.{entry_of}
use Rattle.nr_laws_log.proofs.EntryLaws.{entries_take}
use Rattle.nr_answer.proofs.entries.read_entries.Goals as goal

pub returns-in_err-entry-clause-value : goal.returns-in_err-entry-clause-value
returns-in_err-entry-clause-value c =
    let p = err_from_is_err_and c.from_residual.result c.from_residual.ensures.1 in
    let failed = ending-fails c.loop.wanted c.loop.last c.args.count c.loop.counter c.loop.cursor (offset_of c.in_err-entry.field-0.0)
    (entries_at c.args.checkpoint 0 c.args.count c.fork-start.result) c.loop-test.true c.in_err-entry.ensures.value c.loop.invariant.so_far in
    rw (p.1, p.2) (subst (λ (s : Spot). entries_at c.args.checkpoint 0 c.args.count s ≡ Err (offset_of c.in_err-entry.field-0.0)) c.loop.invariant.started failed)

pub loop-preserved : goal.loop-preserved
loop-preserved c = record {
  so_far = ending-goes c.loop.wanted c.loop.last c.args.count c.loop.counter c.loop.cursor (entry_of c.in_ok-entry.entry) c.read_entry.new.cursor _ c.loop-test.true c.in_ok-entry.ensures.value c.loop.invariant.so_far;
  onward = search rules;
  started = c.loop.invariant.started;
}

pub invariant_of-entries : goal.invariant_of-entries
invariant_of-entries c = (ending-done c.loop.wanted c.loop.last c.args.count c.loop.counter c.loop.cursor
    (entries_at c.args.checkpoint 0 c.args.count c.fork-start.result) c.loop-test.false c.loop.invariant.so_far).no_fault

pub returns-clause-value : goal.returns-clause-value
returns-clause-value c =
    ap (λ (s : Spot). entries_at c.args.checkpoint 0 c.args.count s) (sym c.loop.invariant.started)
    ∙ (ending-done c.loop.wanted c.loop.last c.args.count c.loop.counter c.loop.cursor
    (entries_at c.args.checkpoint 0 c.args.count c.fork-start.result) c.loop-test.false c.loop.invariant.so_far).is_read

pub returns-clause-last : goal.returns-clause-last
returns-clause-last c = (ending-done c.loop.wanted c.loop.last c.args.count c.loop.counter c.loop.cursor
    (entries_at c.args.checkpoint 0 c.args.count c.fork-start.result) c.loop-test.false c.loop.invariant.so_far).is_last

pub returns-clause-count : goal.returns-clause-count
returns-clause-count c = length-entries c.args.checkpoint 0 c.args.count c.fork-start.result (invariant_of-entries c)

pub returns-clause-fit : goal.returns-clause-fit
returns-clause-fit c = (entries_take c.args.checkpoint 0 c.args.count c.fork-start.result _ c.loop.cursor
    (subst (λ (s : Spot). IsBytes s.rest) (sym c.fork-start.ensures.same) c.fork-start.ensures.bytes)
    (ending-done c.loop.wanted c.loop.last c.args.count c.loop.counter c.loop.cursor
    (entries_at c.args.checkpoint 0 c.args.count c.fork-start.result) c.loop-test.false c.loop.invariant.so_far).is_read).0.entries
