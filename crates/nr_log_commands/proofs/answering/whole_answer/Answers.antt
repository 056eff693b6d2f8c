use Rattle.nr_command_parts.specs.Keys.{key_view}
use Rattle.nr_log_commands.proofs.Answered.{none_born}
use Rattle.nr_log_commands.proofs.answering.whole_answer.Goals as goal

pub returns-in-None : goal.returns-in-None
returns-in-None c = rw c.in-None.is (none_born (key_view c.args.key.now))
