use Rattle.std.proofs.Common.{sym, ap, ◌∙◌, ◌≡◌, ℕ, Ok, Err, true, false, length, arith}
use Rattle.std.proofs.lemmas.Bool.{ne_eqb}
use Rattle.std.proofs.lemmas.Result.{err_from_is_err_and}
use Rattle.nr_bytes.specs.Views.{offset_of, short_at}
use Rattle.nr_spec_store.specs.LogFile.{is_open}
use Rattle.nr_store.proofs.Steps.{batches_short, batches_end, batches_fail, batches_go, batches_done}
use Rattle.nr_store.proofs.reading.check_batches.Goals as goal

pub returns-in_err-read_u8 : goal.returns-in_err-read_u8
returns-in_err-read_u8 c =
    let p = err_from_is_err_and c.from_residual.result c.from_residual.ensures.1 in
    rw (p.1, p.2) (batches_short c.loop.last (length c.args.cursor.now.rest) c.loop.counter c.loop.ahead (short_at c.in_err-read_u8.field-0.0) _ (omega (arith, c.loop-test.true, c.left-end.ensures)) c.in_err-read_u8.ensures.value.0 c.loop.invariant)

pub returns-then-branch-ne-OPEN : goal.returns-then-branch-ne-OPEN
returns-then-branch-ne-OPEN c =
    let closed : is_open c.in_ok-read_u8.field-0 ≡ false = ne_eqb _ _ c.if-branch-ne-OPEN.true in
    batches_end c.loop.last (length c.args.cursor.now.rest) c.loop.counter c.loop.ahead c.in_ok-read_u8.field-0 c.read_u8.new.self _ (omega (arith, c.loop-test.true, c.left-end.ensures)) c.in_ok-read_u8.ensures.value closed c.loop.invariant
    ∙ ap (λ (k : ℕ). Ok k) (sym c.at.ensures)

pub returns-in_err-last : goal.returns-in_err-last
returns-in_err-last c =
    let p = err_from_is_err_and c.from_residual-in_err-last.result c.from_residual-in_err-last.ensures.1 in
    let opens : is_open c.in_ok-read_u8.field-0 ≡ true = ap is_open c.if-branch-ne-OPEN.false in
    rw (p.1, p.2) (batches_fail c.loop.last (length c.args.cursor.now.rest) c.loop.counter c.loop.ahead c.read_u8.new.self c.in_ok-read_u8.field-0 (offset_of c.in_err-last.field-0.0) _ (omega (arith, c.loop-test.true, c.left-end.ensures))
    c.in_ok-read_u8.ensures.value opens c.in_err-last.ensures.value c.loop.invariant)

pub loop-preserved : goal.loop-preserved
loop-preserved c =
    let opens : is_open c.in_ok-read_u8.field-0 ≡ true = ap is_open c.if-branch-ne-OPEN.false in
    batches_go c.loop.last (length c.args.cursor.now.rest) c.loop.counter c.loop.ahead c.read_u8.new.self c.check_batch.new.cursor c.in_ok-read_u8.field-0 c.in_ok-last.last _ (omega (arith, c.loop-test.true, c.left-end.ensures))
    c.in_ok-read_u8.ensures.value opens c.in_ok-last.ensures.value c.loop.invariant

pub returns : goal.returns
returns c = batches_done c.loop.last (length c.args.cursor.now.rest) c.loop.counter c.loop.ahead _ (omega (arith, c.loop-test.false, c.left-end.ensures)) c.loop.invariant ∙ ap (λ (k : ℕ). Err k) (sym c.at-2.ensures)
