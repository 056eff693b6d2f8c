use Rattle.std.proofs.Common.{◌≡◌, ◌-◌}
use Rattle.nr_spec_wire.specs.Reading.{IsOnward}
use Rattle.nr_spec_evidence.specs.Counted.{counted_at}
use Rattle.nr_spec_evidence.specs.Evidence.{claim_at}
use Rattle.nr_evidence_file.proofs.Steps.{stop}
use Rattle.nr_evidence_file.proofs.claims.read_claims.Given as goal

-- The claims that are left stop where all of them do.
abbrev pub invariant-loop : goal.invariant-loop
invariant-loop l = record {
  so_far : stop (counted_at claim_at (l.count - l.counter) l.cursor) ≡ stop (counted_at claim_at l.count l.start);
  onward : IsOnward l.fn.cursor l.cursor;
  started : l.start ≡ l.fn.cursor;
}
