use Rattle.nr_verify_heads.proofs.chain.states_one.Given as goal
use Rattle.std.proofs.Common.{◌≡◌, ◌≤◌, ◌+◌, ◌^◌, length}
use Rattle.std.specs.List.{list_any}
use Rattle.nr_spec_log.specs.Chain.{links_of}
use Rattle.nr_spec_history.specs.Conflicts.{is_stated}
use Rattle.nr_answer.specs.Views.{auth_of}

-- whether it states one of those that are left is whether it states one of all
abbrev pub invariant-loop-entry : goal.invariant-loop-entry
invariant-loop-entry l = record {
  stated : list_any (is_stated (auth_of l.auth)) (links_of l.walk l.entry-iterator) ≡ list_any (is_stated (auth_of l.auth)) (links_of l.fn.walk l.fn.entries);
  few : l.walk.seq + length l.entry-iterator ≤ 2 ^ 63;
}
