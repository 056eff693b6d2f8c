use Rattle.nr_recording.proofs.Turns.{events-are}
use Rattle.nr_recording.proofs.events.Events.new.Goals as goal

pub returns : goal.returns
returns c = events-are c.in_ok-records.records _ c.args.until c.time.result c.unwrap_or-begin.result c.unwrap_or-end.result c.in_ok-records.ensures c.unwrap_or-end.ensures c.time.ensures c.unwrap_or-begin.ensures
