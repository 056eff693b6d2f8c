use Rattle.std.proofs.Common.{sym, ◌∙◌, arith, length}
use Rattle.std.proofs.lemmas.Result.{err_from_is_err_and}
use Rattle.nr_spec_wire.proofs.Steps.{fault-goes, fault-fails, fault-done, fault-ends}
use Rattle.nr_spec_frames.specs.Frames.{framed_at}
use Rattle.nr_bytes.specs.Views.{offset_of}
use Rattle.nr_exchange.proofs.files.check_frames.Goals as goal

pub returns-in_err-read_framed : goal.returns-in_err-read_framed
returns-in_err-read_framed c =
    let p = err_from_is_err_and c.from_residual.result c.from_residual.ensures.1 in
    rw (p.1, p.2) (fault-fails framed_at (length c.args.cursor.now.rest) c.loop.counter c.loop.ahead (offset_of c.in_err-read_framed.field-0.0) _
    (omega arith) (λ z. c.if-left-eq0.false (c.left.ensures ∙ z)) c.in_err-read_framed.ensures.value c.loop.invariant)

pub loop-preserved : goal.loop-preserved
loop-preserved c = fault-goes framed_at (length c.args.cursor.now.rest) c.loop.counter c.loop.ahead c.in_ok-read_framed.field-0.now c.read_framed.new.cursor _
    (omega arith) (λ z. c.if-left-eq0.false (c.left.ensures ∙ z)) c.in_ok-read_framed.ensures.value c.loop.invariant

pub returns-after-loop : goal.returns-after-loop
returns-after-loop c = fault-done framed_at (length c.args.cursor.now.rest) c.loop.counter c.loop.ahead _ (omega arith) c.loop.invariant

pub returns-then-left-eq0 : goal.returns-then-left-eq0
returns-then-left-eq0 c = fault-ends framed_at (length c.args.cursor.now.rest) c.loop.counter c.loop.ahead _ (sym c.left.ensures ∙ c.if-left-eq0.true) c.loop.invariant
