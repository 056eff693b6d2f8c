use Rattle.nr_verify_rows.proofs.digest.hash_rows.Given as goal
use Rattle.std.proofs.Common.{◌≡◌, ℕ, List, ◌++◌}
use Rattle.std.specs.List.{flat_map}
use Rattle.nr_spec_counts.specs.Bodies.{row_bytes}
use Rattle.nr_verify_rows.specs.Hashing.{Takes}

-- what was taken in, with the rows that are left, is all of the rows
abbrev pub invariant-loop-key : goal.invariant-loop-key
invariant-loop-key l = (done : List ℕ) × Takes l.fn.hasher l.hasher done × (done ++ flat_map row_bytes l.key-iterator ≡ flat_map row_bytes l.table)
