-- What was asked in vain keeps the buffer's length, and takes nothing from the reader.
use Rattle.std.proofs.Common.{◌≡◌, length}
use Rattle.std.specs.Io.KnownBytes.{Keeps}
use Rattle.nr_system.proofs.transfer.read_some.Given as goal

abbrev pub invariant-loop : goal.invariant-loop
invariant-loop g l = (length l.into ≡ length l.initial.into) × Keeps (g.T.Read.remaining l.initial.reader) (g.T.Read.remaining l.reader)
