use Rattle.std.proofs.Common.{ℕ, List, Option, refl, sym, ◌∙◌}
use Rattle.nr_spec_history.specs.Conflicts.{Period}
use Rattle.nr_spec_truth.specs.Truths.{Truth}
use Rattle.nr_spec_promises.specs.Files.{PromiseFile}
use Rattle.nr_judging.proofs.Files.{rows_none, file_none}
use Rattle.nr_judging.proofs.judging.Judging.new.Goals as goal

pub returns : goal.returns
returns c = λ (files : List PromiseFile) (truth : Truth) (period : Period) (first : Option (List ℕ)) is. record {
  rows = c.new.ensures ∙ sym rows_none;
  file = is ∙ sym (file_none files first);
  begun = refl;
  told = c.new-3.ensures;
}
