use Rattle.std.proofs.Common.{◌≡◌}
use Rattle.std.specs.List.{find}
use Rattle.nr_spec_outcome.specs.Outcome.{digests_within, is_of_no_file}
use Rattle.nr_evidence.specs.Views.{period_of}
use Rattle.nr_verify_heads.specs.Views.{numbers_in}
use Rattle.nr_verify_heads.proofs.promise.strange_within.Given as goal

-- the first of those that are left is the first of all
abbrev pub invariant-loop-entry : goal.invariant-loop-entry
invariant-loop-entry l =
    find (is_of_no_file (numbers_in l.texts)) (digests_within (period_of l.period) l.entry-iterator)
    ≡ find (is_of_no_file (numbers_in l.texts)) (digests_within (period_of l.period) l.fn.entries)
