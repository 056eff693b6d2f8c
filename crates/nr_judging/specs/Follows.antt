-- What is kept of a log.
use Rattle.std.specs.Prelude.{◌≡◌, ℕ, List, Option}
use Rattle.nr_spec_log.specs.Chain.{LogEntry}
use Rattle.nr_spec_history.specs.Conflicts.{Period}
use Rattle.nr_spec_routes.specs.Rows.{rows_after}
use Rattle.nr_spec_report.specs.Wrong.{Base}
use Rattle.nr_spec_truth.specs.Truths.{Truth}
use Rattle.nr_spec_promises.specs.Files.{PromiseFile, file_after}
use Rattle.nr_runs.specs.Views.{Saw}
use Rattle.nr_judging.specs.Asked.{asked}
use Rattle.nr_judging.specs.Seen.{entries_since, has_some, stages_seen}
use Rattle.nr_judging.specs.declared.judging.Judging.{Judging}

-- What is kept is what the base and these entries leave; the digest is that of the first PROMISE of all entries.
pub record Follows (files : List PromiseFile) (truth : Truth) (period : Period) (base : Base) (first : Option (List ℕ))
    (past : List LogEntry) (kept : Judging) : Type 0 where
  pub rows : kept.state ≡ rows_after base.rows past
  pub file : kept.file ≡ file_after files base first past
  pub begun : kept.begun ≡ has_some (entries_since period past)
  pub told : Saw kept.runs (asked files truth (stages_seen files base first period past))
