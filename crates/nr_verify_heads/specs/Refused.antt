-- The fact for which an answer is refused.
use Rattle.std.specs.Prelude.{if◌then◌else◌, ℕ, [], Bool, List, None, Option, Some}
use Rattle.std.specs.Result.{result_err}
use Rattle.nr_spec_log.specs.Answer.{AnswerFile}
use Rattle.nr_spec_history.specs.Conflicts.{Period}
use Rattle.nr_spec_truth.specs.Truths.{Truth}
use Rattle.nr_spec_outcome.specs.Outcome.{Audited, Fact, outcome}

-- a fact that refuses where the test isn't met
abbrev pub unless : Bool → Fact → Option Fact
unless test fact = if test then None else Some fact

-- the fact for which an audit of the answer is refused, where it is
abbrev pub refusal_of : List ℕ → List Audited → Truth → AnswerFile → Period → Option Fact
refusal_of root files truth answer period = result_err (outcome root files truth answer period [])
