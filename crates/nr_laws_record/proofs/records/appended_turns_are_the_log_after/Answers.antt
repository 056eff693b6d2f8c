use Rattle.nr_laws_record.proofs.Turns.{appended_after}
use Rattle.nr_laws_record.proofs.records.appended_turns_are_the_log_after.Goals as goal

pub returns : goal.returns
returns c = appended_after
