use Rattle.std.proofs.Common.{◌≡◌, ℕ, List, true}
use Rattle.std.specs.List.{list_any}
use Rattle.nr_spec_outcome.specs.Outcome.{digests_within}
use Rattle.nr_evidence.specs.Views.{period_of}
use Rattle.nr_verify_heads.proofs.promise.is_any_within.Given as goal

-- there is one among those that are left where there is one among all
abbrev pub invariant-loop-entry : goal.invariant-loop-entry
invariant-loop-entry l =
    list_any (λ (digest : List ℕ). true) (digests_within (period_of l.period) l.entry-iterator)
    ≡ list_any (λ (digest : List ℕ). true) (digests_within (period_of l.period) l.fn.entries)
