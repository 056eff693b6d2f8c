use Rattle.std.proofs.Common.{◌≡◌, ◌++◌, drop}
use Rattle.std.specs.Prelude.{map}
use Rattle.nr_spec_outcome.specs.Report.{wrong_claim}
use Rattle.nr_evidence.specs.Views.{claim_of}
use Rattle.nr_audit.specs.Views.{wrong_of}
use Rattle.nr_commands.proofs.claims.add_wrong.Given as goal

-- The claims so far and those of the entries that are left are those of all.
abbrev pub invariant-loop-entry : goal.invariant-loop-entry
invariant-loop-entry l =
    map claim_of l.claims ++ map wrong_claim (map wrong_of (drop l.entry-index l.wrong))
    ≡ map claim_of l.fn.claims ++ map wrong_claim (map wrong_of l.wrong)
