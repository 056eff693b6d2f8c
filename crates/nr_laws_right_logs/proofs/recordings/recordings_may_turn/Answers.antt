use Rattle.nr_laws_right_logs.proofs.Turning.{recording_may}
use Rattle.nr_laws_right_logs.proofs.recordings.recordings_may_turn.Goals as goal

pub returns : goal.returns
returns c = recording_may
