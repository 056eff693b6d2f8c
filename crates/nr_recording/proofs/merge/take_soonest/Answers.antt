use Rattle.nr_recording.proofs.Order.{merged-none, taken}
use Rattle.nr_recording.proofs.merge.take_soonest.Goals as goal

pub returns-in_err-found : goal.returns-in_err-found
returns-in_err-found c =
    let e = merged-none c.args.sources.now.items (rw c.deref.ensures.value at c.in_err-found.ensures) in
    rw c.from_residual.ensures (e, e)

pub returns : goal.returns
returns c = taken c.in_ok-found.found c.args.sources.now.items c.index_mut-source.result.now c.take.result c.take.new.self (rw c.deref.ensures.value at c.in_ok-found.ensures) c.index_mut-source.ensures.value c.take.ensures
