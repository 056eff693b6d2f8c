use Rattle.std.proofs.Common.{◌≡◌, drop}
use Rattle.nr_spec_outcome.specs.Outcome.{network_fact}
use Rattle.nr_verify_heads.specs.Views.{audited_in}
use Rattle.nr_verify_heads.proofs.check.check_network.Given as goal

-- the first of those that are left is the first of all
abbrev pub invariant-loop-text : goal.invariant-loop-text
invariant-loop-text l = network_fact l.asn (audited_in (drop l.text-index l.texts)) ≡ network_fact l.asn (audited_in l.texts)
