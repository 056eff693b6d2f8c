use Rattle.std.proofs.Common.{refl}
use Rattle.nr_log_commands.specs.Turning.{no_frames}
use Rattle.nr_log_commands.proofs.Turning.{spent_is}
use Rattle.nr_log_commands.proofs.turns.apply_event.Goals as goal

pub returns-in-Ok : goal.returns-in-Ok
returns-in-Ok c = let e = c.in-Ok.ensures no_frames in (e.0, e.1, e.2)

pub returns-in-Err-default-KeySpent : goal.returns-in-Err-default-KeySpent
returns-in-Err-default-KeySpent c =
    let k = c.in-Err-default-KeySpent in
    rw c.from.ensures (_, spent_is c.args.core _ k.field-0-0 k.field-0-1 k.commits k.leaves k.field-0-1-is (k.ensures no_frames), refl)
