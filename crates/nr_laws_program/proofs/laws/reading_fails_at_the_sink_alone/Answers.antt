use Rattle.nr_laws_program.proofs.FileLaws.{sink_fails}
use Rattle.nr_laws_program.proofs.laws.reading_fails_at_the_sink_alone.Goals as goal

pub returns : goal.returns
returns c = sink_fails
