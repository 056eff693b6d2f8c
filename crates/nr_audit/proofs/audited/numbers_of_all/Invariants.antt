use Rattle.std.proofs.Common.{◌≡◌, ◌++◌, drop}
use Rattle.std.specs.Prelude.{map}
use Rattle.nr_spec_outcome.specs.Outcome.{numbers_of_all}
use Rattle.nr_discipline.specs.Views.{numbers_of}
use Rattle.nr_audit.specs.Views.{audited_of}
use Rattle.nr_audit.proofs.audited.numbers_of_all.Given as goal

abbrev pub invariant-loop-file : goal.invariant-loop-file
invariant-loop-file l = map numbers_of l.all.items ++ numbers_of_all (map audited_of (drop l.file-index l.files)) ≡ numbers_of_all (map audited_of l.files)
