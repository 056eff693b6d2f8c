use Rattle.std.proofs.Common.{rules, ◌≡◌, ◌+◌, ◌-◌, None, Some, subst, sym}
use Rattle.std.proofs.lemmas.Result.{err_from_is_err_and}
use Rattle.nr_bytes.specs.Views.{offset_of}
use Rattle.nr_spec_routes.specs.Keys.{Key}
use Rattle.nr_spec_bodies.specs.Reading.{rows_behind}
use Rattle.nr_tables.specs.Views.{row_of}
use Rattle.nr_discipline.proofs.RowsRead.{behind, row_done, row_fails, row_goes, row_starts}
use Rattle.nr_discipline.proofs.RowsEnd.{TakesBehind, next_behind, none_behind, put_last, read_behind}
use Rattle.nr_discipline.proofs.rows_reading.read_rows.Goals as goal

pub loop-init : goal.loop-init
loop-init c = record {
  so_far = row_starts c.new-state.result None c.args.count c.args.cursor.now c.new-state.ensures;
  order = none_behind c.new-state.result c.new-state.ensures;
  onward = search rules;
}

pub returns-in_err-row-clause-value : goal.returns-in_err-row-clause-value
returns-in_err-row-clause-value c =
    let p = err_from_is_err_and c.from_residual.result c.from_residual.ensures.1 in
    let failed = row_fails c.loop.before c.args.count c.loop.counter c.loop.cursor (offset_of c.in_err-row.field-0.0) c.loop.state
    (rows_behind None c.args.count c.args.cursor.now) c.loop-test.true c.in_err-row.ensures.value c.loop.invariant.so_far in
    rw (p.1, p.2) failed

pub loop-preserved : goal.loop-preserved
loop-preserved c =
    let r = row_of c.in_ok-row.row in
    let key = sym c.key_of.ensures in
    let after = read_behind c.loop.before c.loop.cursor c.read_row.new.cursor r c.in_ok-row.ensures.value in
    let up = c.loop.invariant.order r.0 r.1 after in
    let more = put_last c.loop.state c.in_ok-state.state r.0 r.1 up c.in_ok-state.ensures.order c.in_ok-state.ensures.routes in
    record {
      so_far = subst (λ (k : Key). behind c.in_ok-state.state (rows_behind (Some k) (c.args.count - (c.loop.counter + 1)) c.read_row.new.cursor) ≡ rows_behind None c.args.count c.args.cursor.now) key
          (row_goes c.loop.before c.args.count c.loop.counter c.loop.cursor c.read_row.new.cursor r c.loop.state c.in_ok-state.state (rows_behind None c.args.count c.args.cursor.now)
          more c.loop-test.true c.in_ok-row.ensures.value c.loop.invariant.so_far);
      order = subst (λ (k : Key). TakesBehind (Some k) c.in_ok-state.state) key (next_behind c.loop.state c.in_ok-state.state r.0 r.1 more up);
      onward = search rules;
    }

pub returns-clause-value : goal.returns-clause-value
returns-clause-value c = row_done c.loop.before c.args.count c.loop.counter c.loop.cursor c.loop.state (rows_behind None c.args.count c.args.cursor.now) c.loop-test.false c.loop.invariant.so_far
