use Rattle.std.proofs.Common.{◌≤◌, length, map, ◌∙◌, arith}
use Rattle.std.proofs.lemmas.List.{length-map}
use Rattle.std.proofs.lemmas.Result.{err_from_is_err_and}
use Rattle.nr_events.specs.Views.{event_of}
use Rattle.nr_log_commands.proofs.Turning.{fewer_left, has_more, has_stopped, leads_end, leads_unfound, none_left, none_turned, some_left, turn_few, turn_short}
use Rattle.nr_log_commands.proofs.turns.record_turns.Goals as goal

pub returns-in_err-turn : goal.returns-in_err-turn
returns-in_err-turn g c =
    let p = err_from_is_err_and c.from_residual.result c.from_residual.ensures.1 in
    rw (p.1, p.2) (leads_unfound _ _ _ _ _ _ _ _ c.in_err-turn.ensures.some c.loop-events.invariant.leads)

pub returns-then-is_empty : goal.returns-then-is_empty
returns-then-is_empty g c =
    let turn = map event_of c.in_ok-turn.turn in
    leads_end _ _ _ _ _ _ _ _ turn c.in_ok-turn.ensures.turn (none_turned turn (length-map c.in_ok-turn.turn event_of ∙ none_left _ _ c.is_empty.ensures c.if-is_empty.true)) c.loop-events.invariant.leads

pub record_turn-requires-clause-size : goal.record_turn-requires-clause-size
record_turn-requires-clause-size g c =
    omega (arith, length-map c.in_ok-turn.turn event_of, turn_few (map event_of c.in_ok-turn.turn) c.loop-events.events c.in_ok-turn.ensures.turn)

pub record_turn-requires-clause-short : goal.record_turn-requires-clause-short
record_turn-requires-clause-short g c = turn_short _ _ c.in_ok-turn.ensures.turn c.loop-events.invariant.short

pub returns-in_err-longer : goal.returns-in_err-longer
returns-in_err-longer g c =
    let p = err_from_is_err_and c.from_residual-in_err-longer.result c.from_residual-in_err-longer.ensures.1 in
    let some : 1 ≤ length (map event_of c.in_ok-turn.turn) = omega (arith, length-map c.in_ok-turn.turn event_of, some_left _ _ c.is_empty.ensures c.if-is_empty.false) in
    rw (p.1, p.2) (has_stopped _ _ _ _ _ _ _ _ _ _ _ _ _ c.in_ok-turn.ensures.turn c.in_ok-turn.ensures.left some c.loop-events.invariant c.in_err-longer.ensures.does)

pub loop-events-smaller : goal.loop-events-smaller
loop-events-smaller g c =
    fewer_left (map event_of c.in_ok-turn.turn) _ _ c.in_ok-turn.ensures.turn c.in_ok-turn.ensures.left (omega (arith, length-map c.in_ok-turn.turn event_of, some_left _ _ c.is_empty.ensures c.if-is_empty.false))

pub loop-events-preserved : goal.loop-events-preserved
loop-events-preserved g c =
    has_more _ _ _ _ _ _ _ _ _ _ _ _ (map event_of c.in_ok-turn.turn) _ c.in_ok-turn.ensures.turn c.in_ok-turn.ensures.left
    (omega (arith, length-map c.in_ok-turn.turn event_of, some_left _ _ c.is_empty.ensures c.if-is_empty.false))
    c.loop-events.invariant c.in_ok-longer.ensures.does c.in_ok-longer.ensures.same c.in_ok-longer.ensures.recorder c.in_ok-longer.ensures.holds
