use Rattle.std.proofs.Common.{length, arith, option_map}
use Rattle.std.proofs.lemmas.Result.{err_from_is_err_and}
use Rattle.nr_bytes.specs.Views.{offset_of}
use Rattle.nr_mrt.specs.Views.{item_of}
use Rattle.nr_events.specs.Views.{event_of}
use Rattle.nr_recording.specs.Views.{speakers_of}
use Rattle.nr_recording.proofs.Counting.{counted-more, counts-none, counts-fault, counts-spent, counts-end}
use Rattle.nr_recording.proofs.file.check_file.Goals as goal

pub loop-init : goal.loop-init
loop-init c = record { few = omega arith; total = rw c.new-ahead.ensures (counts-none (speakers_of c.args.neighbours.now) c.args.bytes.now _ (omega arith)) }

pub returns-in_err-item-in-Some-clause-value : goal.returns-in_err-item-in-Some-clause-value
returns-in_err-item-in-Some-clause-value c =
    let p = err_from_is_err_and c.from_residual.result c.from_residual.ensures.1 in
    let failed = rw c.in_err-item-in-Some.was at c.in-Some.ensures.value in
    rw (p.1, p.2) (counts-fault (speakers_of c.args.neighbours.now) c.loop.facts (length c.args.bytes.now) c.loop.counter c.loop.ahead (offset_of c.in_err-item-in-Some.field-0.0) _
    (omega arith) (λ z. omega (arith, failed.0, z)) failed.1.0 c.loop.invariant.total)

pub loop-preserved : goal.loop-preserved
loop-preserved c =
    let read = rw c.in_ok-item-in-Some.was at c.in-Some.ensures.value in
    let more = counted-more (speakers_of c.args.neighbours.now) c.loop.facts c.count-facts.result (option_map event_of c.kept-event.result) (length c.args.bytes.now) c.loop.counter c.loop.ahead
    (item_of c.in_ok-item-in-Some.field-0) c.next.new.cursor _ c.count-facts.ensures c.kept-event.ensures c.loop.invariant.few (omega arith) (λ z. omega (arith, read.0, z)) read.1 c.loop.invariant.total in
    record { few = more.few; total = more.whole }

pub returns-after-loop-clause-value : goal.returns-after-loop-clause-value
returns-after-loop-clause-value c = counts-spent (speakers_of c.args.neighbours.now) c.loop.facts (length c.args.bytes.now) c.loop.counter c.loop.ahead _ (omega arith) c.loop.invariant.total

pub returns-in-None-clause-value : goal.returns-in-None-clause-value
returns-in-None-clause-value c = counts-end (speakers_of c.args.neighbours.now) c.loop.facts (length c.args.bytes.now) c.loop.counter c.loop.ahead _ c.in-None.ensures.value.0 c.loop.invariant.total
