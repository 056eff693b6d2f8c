use Rattle.std.proofs.Common.{◌≡◌}
use Rattle.std.specs.Prelude.{map}
use Rattle.nr_spec_outcome.specs.Outcome.{is_of_no_file}
use Rattle.nr_discipline.specs.Views.{numbers_of}
use Rattle.nr_audit.proofs.Files.{none_from}
use Rattle.nr_audit.proofs.force.is_of_no_file.Given as goal

-- that none of those that are left has the digest is that none of all has it
abbrev pub invariant-loop-file : goal.invariant-loop-file
invariant-loop-file l = none_from l.digest.0 l.files l.file-index ≡ is_of_no_file (map numbers_of l.files) l.digest.0
