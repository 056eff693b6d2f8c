use Rattle.std.proofs.Common.{map}
use Rattle.std.proofs.lemmas.Result.{err_from_is_err_and}
use Rattle.nr_events.specs.Views.{event_of}
use Rattle.nr_log_commands.proofs.Turning.{turn_ran, turn_stops}
use Rattle.nr_log_commands.proofs.turns.record_turn.Goals as goal

pub returns-in_err-core-clause-does : goal.returns-in_err-core-clause-does
returns-in_err-core-clause-does g c =
    let p = err_from_is_err_and c.from_residual.result c.from_residual.ensures.1 in
    rw (p.1, p.2) (turn_stops c.args.name.now c.args.core c.args.store (map event_of c.args.events.now) _ _ c.requires.same c.in_err-core.ensures)

pub returns-in_err-store-clause-does : goal.returns-in_err-store-clause-does
returns-in_err-store-clause-does g c =
    let p = err_from_is_err_and c.from_residual-in_err-store.result c.from_residual-in_err-store.ensures.1 in
    rw (p.1, p.2) (turn_ran c.args.name.now c.args.core c.in_ok-core.core c.within_limit-store.result c.args.store (map event_of c.args.events.now) c.seq-before.result _ _ _ c.within_limit-store.ensures.same c.requires.same c.seq-before.ensures c.in_ok-core.ensures c.in_err-store.ensures.does)

pub returns-clause-does : goal.returns-clause-does
returns-clause-does g c =
    turn_ran c.args.name.now c.args.core c.in_ok-core.core c.within_limit-store.result c.args.store (map event_of c.args.events.now) c.seq-before.result _ _ _ c.within_limit-store.ensures.same c.requires.same c.seq-before.ensures c.in_ok-core.ensures c.in_ok-store.ensures.does
