use Rattle.nr_laws_recording.proofs.Ended.{read_leaves}
use Rattle.nr_laws_recording.proofs.turns.reading_after_turns.Goals as goal

pub returns : goal.returns
returns c = read_leaves
