use Rattle.std.proofs.Common.{◌≡◌, ◌++◌}
use Rattle.std.specs.Prelude.{map}
use Rattle.nr_evidence.specs.Views.{period_of}
use Rattle.nr_audit.specs.Slots.{accuses}
use Rattle.nr_audit.proofs.conflict.mark_conflicts.Given as goal

-- The marks so far and those of the authenticators that are left are those of all.
abbrev pub invariant-loop-auth : goal.invariant-loop-auth
invariant-loop-auth l =
    l.marks.items ++ map (accuses l.root.0 l.asn (period_of l.period) l.slots.links.entries) l.auth-iterator
    ≡ map (accuses l.root.0 l.asn (period_of l.period) l.slots.links.entries) l.auths
