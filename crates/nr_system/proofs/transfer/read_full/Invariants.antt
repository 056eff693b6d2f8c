-- What came so far is what the reader gave.
use Rattle.std.proofs.Common.{◌≡◌, ◌≤◌, ◌-◌, length, take}
use Rattle.std.specs.Io.KnownBytes.{Consumes}
use Rattle.nr_system.proofs.transfer.read_full.Given as goal

abbrev pub invariant-loop-at : goal.invariant-loop-at
invariant-loop-at g l = (length l.into ≡ length l.initial.into) × (l.at ≤ length l.into) × Consumes (g.T.Read.remaining l.initial.reader) (g.T.Read.remaining l.reader) (take l.at l.into)

abbrev pub decreases-loop-at : goal.decreases-loop-at
decreases-loop-at g l = length l.into - l.at
