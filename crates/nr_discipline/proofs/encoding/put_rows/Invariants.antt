use Rattle.std.proofs.Common.{◌≡◌, ℕ, List, ◌++◌}
use Rattle.std.specs.List.{flat_map}
use Rattle.nr_spec_counts.specs.Bodies.{row_bytes}
use Rattle.nr_discipline.specs.Hashing.{Grows}
use Rattle.nr_discipline.proofs.encoding.put_rows.Given as goal

-- what was appended, with the rows that are left, is all of the rows
abbrev pub invariant-loop-row : goal.invariant-loop-row
invariant-loop-row l = (done : List ℕ) × Grows l.fn.out.items l.out.items done × (done ++ flat_map row_bytes l.row-iterator ≡ flat_map row_bytes l.fn.rows)
