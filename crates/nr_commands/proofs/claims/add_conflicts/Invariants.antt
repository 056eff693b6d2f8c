use Rattle.std.proofs.Common.{◌≡◌, ◌++◌, drop}
use Rattle.std.specs.Prelude.{map}
use Rattle.nr_spec_report.specs.Claims.{Conflict}
use Rattle.nr_evidence.specs.Views.{claim_of}
use Rattle.nr_audit.specs.Views.{marked}
use Rattle.nr_commands.proofs.claims.add_conflicts.Given as goal

-- The claims so far and those of the authenticators that are left are those of all.
abbrev pub invariant-loop-mark : goal.invariant-loop-mark
invariant-loop-mark l =
    map claim_of l.claims ++ map Conflict (marked l.left (drop l.mark-index l.marks))
    ≡ map claim_of l.fn.claims ++ map Conflict (marked l.auths l.marks)
