-- An answer that is true of a log is audited as the log.
use Rattle.std.proofs.Common.{◌≡◌, ℕ, List, None}
use Rattle.nr_spec_log.specs.Chain.{LogEntry}
use Rattle.nr_spec_log.specs.Authenticator.{Authenticator}
use Rattle.nr_spec_log.specs.Answer.{AnswerFile, IsAnswer}
use Rattle.nr_spec_history.specs.Conflicts.{Period}
use Rattle.nr_spec_report.specs.Wrong.{nothing_before}
use Rattle.nr_spec_truth.specs.Truths.{Truth}
use Rattle.nr_spec_outcome.specs.Outcome.{Audited, outcome, outcome_over}
use Rattle.nr_spec_bodies.specs.Bases.{state_after}
use Rattle.nr_spec_slices.specs.Slices.{IsLog, IsTrue, whole}
use Rattle.nr_spec_slices.specs.Late.{late_fact}
use Rattle.nr_laws_checkpoint.proofs.Reports.{outcome_behind}
use Rattle.nr_laws_checkpoint.proofs.Timely.{timely}

pub true_outcome : (root : List ℕ) (files : List Audited) (truth : Truth) (log : List LogEntry) (answer : AnswerFile) (period : Period) (auths : List Authenticator)
    → IsLog log → (t : IsTrue log answer) → IsAnswer answer → late_fact answer period ≡ None
    → outcome_over root files truth (state_after nothing_before t.before) answer period auths ≡ outcome root files truth (whole log answer) period auths
true_outcome root files truth log answer period auths log_is t a none =
    outcome_behind root files truth t.before log answer period auths t.behind (timely period log answer log_is t a none)
