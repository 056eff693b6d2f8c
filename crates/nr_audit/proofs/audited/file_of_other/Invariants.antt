use Rattle.std.proofs.Common.{◌≡◌, drop}
use Rattle.std.specs.Prelude.{map}
use Rattle.nr_spec_outcome.specs.Outcome.{file_of_other}
use Rattle.nr_audit.specs.Views.{audited_of}
use Rattle.nr_audit.proofs.audited.file_of_other.Given as goal

-- the first of those that are left is the first of all
abbrev pub invariant-loop-file : goal.invariant-loop-file
invariant-loop-file l = file_of_other l.asn (map audited_of (drop l.file-index l.files)) ≡ file_of_other l.asn (map audited_of l.files)
