-- An audit that finds nothing.
use Rattle.std.specs.Prelude.{◌≡◌, ℕ, List, []}
use Rattle.nr_spec_log.specs.Answer.{AnswerFile}
use Rattle.nr_spec_log.specs.Authenticator.{Authenticator}
use Rattle.nr_spec_history.specs.Conflicts.{Period, conflicts_of}
use Rattle.nr_spec_report.specs.Wrong.{Base, wrong_entries}
use Rattle.nr_spec_truth.specs.Truths.{Truth}
use Rattle.nr_spec_promises.specs.Moments.{moments}
use Rattle.nr_spec_outcome.specs.Outcome.{Audited, numbers_of_all, promise_files}
use Rattle.nr_laws_promises.specs.BrokenRows.{IsBrokenRow, PlacedRun}

-- There is no conflict, no wrong entry within the period, and no row of moments at which a promise is broken.
pub record FindsNothing (root : List ℕ) (files : List Audited) (truth : Truth) (base : Base) (answer : AnswerFile)
    (period : Period) (auths : List Authenticator) : Type 0 where
  pub no_conflict : conflicts_of root answer period auths ≡ []
  pub no_wrong : wrong_entries (numbers_of_all files) base period answer.first answer.entries ≡ []
  pub no_broken : (p : PlacedRun)
      → IsBrokenRow (promise_files files) truth (moments (promise_files files) base period answer.entries) period.to p
      → ⊥
