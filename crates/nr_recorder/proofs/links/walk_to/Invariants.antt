use Rattle.std.proofs.Common.{◌≡◌, ◌+◌, ℕ, take}
use Rattle.nr_spec_log.specs.Chain.{value_after}
use Rattle.nr_spec_steps.specs.Heads.{log_chain}
use Rattle.nr_recorder.proofs.links.walk_to.Given as goal

abbrev pub invariant-loop-place : goal.invariant-loop-place
invariant-loop-place l = record {
  value : (asn : ℕ) → l.fn.start.0 ≡ value_after (log_chain asn) (take l.from l.log) → l.walk.value ≡ value_after (log_chain asn) (take l.place l.log);
  seq : l.walk.seq ≡ l.place + 1;
}
