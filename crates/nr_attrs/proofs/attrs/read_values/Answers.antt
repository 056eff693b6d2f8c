use Rattle.std.proofs.Common.{arith, sym}
use Rattle.std.proofs.lemmas.Result.{err_from_is_err_and}
use Rattle.nr_spec_bgp.proofs.Walks.{attribute_eats}
use Rattle.nr_attrs.specs.Found.{placed_of}
use Rattle.nr_attrs.proofs.Reading.{ends, stops, faults}
use Rattle.nr_attrs.proofs.attrs.read_values.Goals as goal

pub returns-in_err-found-clause-err : goal.returns-in_err-found-clause-err
returns-in_err-found-clause-err c =
    let p = err_from_is_err_and c.from_residual.result c.from_residual.ensures.1 in
    rw (p.1, p.2) (faults c.args.as4 c.loop-cursor.seen c.loop-cursor.cursor _ _ c.loop-cursor.invariant (omega (arith, c.left.ensures)) c.in_err-found.ensures.value)

pub loop-cursor-smaller : goal.loop-cursor-smaller
loop-cursor-smaller c = attribute_eats c.loop-cursor.cursor (placed_of c.in_ok-found.found, c.read_attribute.new.cursor) c.in_ok-found.ensures.value

pub returns-in-None-clause-err : goal.returns-in-None-clause-err
returns-in-None-clause-err c =
    let f = placed_of c.in_ok-found.found in
    stops c.args.as4 c.loop-cursor.seen c.loop-cursor.cursor _ f.what f.at c.read_attribute.new.cursor c.loop-cursor.invariant (omega (arith, c.left.ensures)) c.in_ok-found.ensures.short c.in_ok-found.ensures.value (sym c.in-None.ensures)

pub returns-clause-ok : goal.returns-clause-ok
returns-clause-ok c = ends c.args.as4 c.loop-cursor.seen c.loop-cursor.cursor _ c.loop-cursor.invariant (omega (arith, c.left.ensures))
