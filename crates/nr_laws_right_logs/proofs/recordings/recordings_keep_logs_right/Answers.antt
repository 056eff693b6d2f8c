use Rattle.nr_laws_right_logs.proofs.Turning.{recording_right}
use Rattle.nr_laws_right_logs.proofs.recordings.recordings_keep_logs_right.Goals as goal

pub returns : goal.returns
returns c = recording_right
