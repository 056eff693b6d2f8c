use Rattle.std.proofs.Common.{◌≡◌}
use Rattle.std.specs.Prelude.{map}
use Rattle.nr_spec_counts.specs.Causes.{file_with}
use Rattle.nr_verify_counts.specs.Views.{numbers_of}
use Rattle.nr_verify_counts.proofs.Files.{file_from}
use Rattle.nr_verify_counts.proofs.causes.file_with.Given as goal

-- the first of those that are left is the first of all
abbrev pub invariant-loop-file : goal.invariant-loop-file
invariant-loop-file l = file_from l.digest.0 l.files l.file-index ≡ file_with l.digest.0 (map numbers_of l.files)
