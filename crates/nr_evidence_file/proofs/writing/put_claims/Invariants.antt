use Rattle.std.proofs.Common.{◌≡◌, ◌++◌, take}
use Rattle.std.specs.List.{flat_map}
use Rattle.nr_spec_evidence.specs.Evidence.{claim_bytes}
use Rattle.nr_evidence.specs.Views.{claim_of}
use Rattle.nr_evidence_file.proofs.writing.put_claims.Given as goal

abbrev pub invariant-loop-at : goal.invariant-loop-at
invariant-loop-at l = l.out.items ≡ l.fn.out.items ++ flat_map (λ c. claim_bytes (claim_of c)) (take l.at l.claims)
