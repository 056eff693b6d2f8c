use Rattle.std.proofs.Common.{rules}
use Rattle.netreview.proofs.WholeRuns.{out_of_room, says_usage}
use Rattle.netreview.proofs.run.run.Goals as goal

pub returns-in-Err : goal.returns-in-Err
returns-in-Err g c = search (rules, out_of_room)

pub returns-in-Ok-None : goal.returns-in-Ok-None
returns-in-Ok-None g c = search (rules, says_usage)
