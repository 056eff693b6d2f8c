use Rattle.std.proofs.Common.{◌≡◌}
use Rattle.nr_spec_promises.specs.Files.{first_promised}
use Rattle.nr_verify_runs.proofs.file.first_file.Given as goal

-- the first PROMISE is among those that are left
abbrev pub invariant-loop-entry : goal.invariant-loop-entry
invariant-loop-entry l = first_promised l.entry-iterator ≡ first_promised l.fn.entries
