use Rattle.std.proofs.Common.{Some, ap, map, sym, ◌∙◌, arith}
use Rattle.std.proofs.lemmas.List.{length-map}
use Rattle.std.proofs.lemmas.Result.{err_from_is_err_and}
use Rattle.nr_events.specs.Views.{event_of}
use Rattle.nr_log_commands.proofs.Turning.{after_end, after_more, after_stop, event_at, no_event, short_event}
use Rattle.nr_log_commands.proofs.turns.apply_turn.Goals as goal

pub roomy-requires : goal.roomy-requires
roomy-requires c = short_event c.args.events.now c.loop-i.i c.in-Some.event c.requires.short (sym c.get.ensures ∙ c.in-Some.is)

pub returns-in_err-core-in-Some : goal.returns-in_err-core-in-Some
returns-in_err-core-in-Some c =
    let p = err_from_is_err_and c.from_residual.result c.from_residual.ensures.1 in
    let got = event_at c.args.events.now c.loop-i.i c.roomy.result (sym c.get.ensures ∙ c.in-Some.is ∙ ap (λ e. Some e) (sym c.roomy.ensures.same)) in
    rw (p.1, p.2) (after_stop c.args.core c.loop-i.core (map event_of c.args.events.now) c.loop-i.i _ _ c.loop-i.invariant got c.in_err-core-in-Some.ensures)

pub unreachable-requires : goal.unreachable-requires
unreachable-requires c = no_event c.args.events.now c.loop-i.i _ c.loop-i-test.true c.len-i-end.ensures (sym c.get.ensures ∙ c.in-None.is)

pub loop-i-preserved : goal.loop-i-preserved
loop-i-preserved c =
    let got = event_at c.args.events.now c.loop-i.i c.roomy.result (sym c.get.ensures ∙ c.in-Some.is ∙ ap (λ e. Some e) (sym c.roomy.ensures.same)) in
    after_more c.args.core c.loop-i.core _ (map event_of c.args.events.now) c.loop-i.i _ c.loop-i.invariant got c.in_ok-core-in-Some.ensures

pub returns : goal.returns
returns c = after_end c.args.core c.loop-i.core (map event_of c.args.events.now) c.loop-i.i c.loop-i.invariant (omega (arith, length-map c.args.events.now event_of, c.len-i-end.ensures, c.loop-i-test.false))
