use Rattle.nr_rows_log.proofs.room.can_send.Given as goal
use Rattle.std.proofs.Common.{ℕ, ◌<◌, ◌+◌, ◌^◌}
use Rattle.std.specs.Prelude.{slice_index}

-- there was room so far
abbrev pub invariant-loop-n : goal.invariant-loop-n
invariant-loop-n l = (k : ℕ) → k < l.n → slice_index l.counts.sends k + 1 < 2 ^ 64
