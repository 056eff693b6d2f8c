use Rattle.std.proofs.Common.{ℕ, [], List, Option, refl, ap, ◌∙◌}
use Rattle.nr_spec_history.specs.Conflicts.{Period}
use Rattle.nr_spec_routes.specs.Keys.{Row}
use Rattle.nr_spec_routes.proofs.RowsOnce.{rows_before}
use Rattle.nr_spec_routes.specs.Rows.{rows_after}
use Rattle.nr_spec_report.specs.Wrong.{Base}
use Rattle.nr_spec_truth.specs.Truths.{Truth}
use Rattle.nr_spec_promises.specs.Files.{PromiseFile}
use Rattle.nr_judging.proofs.judging.Judging.over.Goals as goal

pub returns : goal.returns
returns c = λ (files : List PromiseFile) (truth : Truth) (period : Period) (base : Base) (first : Option (List ℕ)) rows file. record {
  rows = rows_before c.args.state c.requires ∙ ap (λ (l : List Row). rows_after l []) rows;
  file = file;
  begun = refl;
  told = c.new-2.ensures;
}
