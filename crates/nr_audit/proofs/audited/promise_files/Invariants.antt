use Rattle.std.proofs.Common.{◌≡◌, ◌++◌, drop}
use Rattle.std.specs.Prelude.{map}
use Rattle.nr_spec_outcome.specs.Outcome.{promise_files}
use Rattle.nr_judging.specs.Views.{files_in}
use Rattle.nr_audit.specs.Views.{audited_of}
use Rattle.nr_audit.proofs.audited.promise_files.Given as goal

abbrev pub invariant-loop-file : goal.invariant-loop-file
invariant-loop-file l = files_in l.all.items ++ promise_files (map audited_of (drop l.file-index l.files)) ≡ promise_files (map audited_of l.files)
