use Rattle.nr_spec_program.specs.Command.{PromiseInput}
use Rattle.nr_command_parts.proofs.PlanSteps.{load_within}
use Rattle.nr_command_parts.proofs.reading.read_promise.Goals as goal

pub promise_from-requires : goal.promise_from-requires
promise_from-requires g c = load_within PromiseInput _ _ _ _ c.in_ok-text.ensures
