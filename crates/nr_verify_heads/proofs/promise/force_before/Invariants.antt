use Rattle.std.proofs.Common.{◌≡◌}
use Rattle.std.specs.Prelude.{option_map}
use Rattle.nr_chain.specs.Views.{digest_bytes}
use Rattle.nr_spec_routes.specs.LookBack.{last_of, later_or}
use Rattle.nr_evidence.specs.Views.{period_of}
use Rattle.nr_verify_heads.specs.Promised.{promised_before}
use Rattle.nr_verify_heads.proofs.promise.force_before.Given as goal

-- the last of those that are left, or else the last so far, is the last of all
abbrev pub invariant-loop-entry : goal.invariant-loop-entry
invariant-loop-entry l =
    later_or (last_of (promised_before (period_of l.period)) l.entry-iterator) (option_map digest_bytes l.force)
    ≡ last_of (promised_before (period_of l.period)) l.fn.entries
