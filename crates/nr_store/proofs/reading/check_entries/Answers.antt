use Rattle.std.proofs.Common.{sym, ◌∙◌, length, arith}
use Rattle.std.proofs.lemmas.Result.{err_from_is_err_and}
use Rattle.nr_bytes.specs.Views.{offset_of}
use Rattle.nr_chain.specs.Views.{entry_of}
use Rattle.nr_store.proofs.Steps.{rest_goes, rest_fails, rest_ends, rest_done}
use Rattle.nr_store.proofs.reading.check_entries.Goals as goal

pub returns-then-left-eq0 : goal.returns-then-left-eq0
returns-then-left-eq0 c = rest_ends c.loop.last (length c.args.part.now.rest) c.loop.counter c.loop.ahead _ (sym c.left.ensures ∙ c.if-left-eq0.true) c.loop.invariant

pub returns-in_err-last : goal.returns-in_err-last
returns-in_err-last c =
    let p = err_from_is_err_and c.from_residual.result c.from_residual.ensures.1 in
    rw (p.1, p.2) (rest_fails c.loop.last (length c.args.part.now.rest) c.loop.counter c.loop.ahead (offset_of c.in_err-last.field-0.0) _ (omega (arith, c.loop-test.true, c.left-end.ensures)) (λ z. c.if-left-eq0.false (c.left.ensures ∙ z)) c.in_err-last.ensures.value c.loop.invariant)

pub loop-preserved : goal.loop-preserved
loop-preserved c =
    rest_goes c.loop.last (length c.args.part.now.rest) c.loop.counter c.loop.ahead (entry_of c.in_ok-last.field-0) c.read_entry.new.cursor _ (omega (arith, c.loop-test.true, c.left-end.ensures)) (λ z. c.if-left-eq0.false (c.left.ensures ∙ z)) c.in_ok-last.ensures.value c.loop.invariant

pub returns : goal.returns
returns c = rest_done c.loop.last (length c.args.part.now.rest) c.loop.counter c.loop.ahead _ (omega (arith, c.loop-test.false, c.left-end.ensures)) c.loop.invariant
