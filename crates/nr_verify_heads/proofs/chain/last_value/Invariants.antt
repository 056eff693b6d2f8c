use Rattle.nr_verify_heads.proofs.chain.last_value.Given as goal
use Rattle.std.proofs.Common.{◌≡◌, ◌≤◌, ◌+◌, ◌^◌, length}
use Rattle.nr_spec_log.specs.Chain.{value_after}

-- the value after those that are left is that after all
abbrev pub invariant-loop-entry : goal.invariant-loop-entry
invariant-loop-entry l = record {
  value : value_after l.walk l.entry-iterator ≡ value_after l.fn.walk l.fn.entries;
  few : l.walk.seq + length l.entry-iterator ≤ 2 ^ 63;
}
