use Rattle.std.proofs.Common.{sym, ◌∙◌, arith, length}
use Rattle.std.proofs.lemmas.Result.{err_from_is_err_and}
use Rattle.nr_spec_wire.proofs.Steps.{fault-goes, fault-fails, fault-done, fault-ends}
use Rattle.nr_spec_log.specs.Authenticator.{authenticator_at}
use Rattle.nr_bytes.specs.Views.{offset_of}
use Rattle.nr_answer.specs.Views.{auth_of}
use Rattle.nr_answer.proofs.auths.check_auths.Goals as goal

pub returns-in_err-read : goal.returns-in_err-read
returns-in_err-read c =
    let p = err_from_is_err_and c.from_residual.result c.from_residual.ensures.1 in
    rw (p.1, p.2) (fault-fails authenticator_at (length c.args.cursor.now.rest) c.loop.counter c.loop.ahead (offset_of c.in_err-read.field-0.0) _
    (omega arith) (λ z. c.if-left-eq0.false (c.left.ensures ∙ z)) c.in_err-read.ensures.value.0 c.loop.invariant)

pub loop-preserved : goal.loop-preserved
loop-preserved c = fault-goes authenticator_at (length c.args.cursor.now.rest) c.loop.counter c.loop.ahead (auth_of c.in_ok-read.field-0) c.read.new.cursor _
    (omega arith) (λ z. c.if-left-eq0.false (c.left.ensures ∙ z)) c.in_ok-read.ensures.value c.loop.invariant

pub returns-after-loop : goal.returns-after-loop
returns-after-loop c = fault-done authenticator_at (length c.args.cursor.now.rest) c.loop.counter c.loop.ahead _ (omega arith) c.loop.invariant

pub returns-then-left-eq0 : goal.returns-then-left-eq0
returns-then-left-eq0 c = fault-ends authenticator_at (length c.args.cursor.now.rest) c.loop.counter c.loop.ahead _ (sym c.left.ensures ∙ c.if-left-eq0.true) c.loop.invariant
