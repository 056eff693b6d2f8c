use Rattle.std.specs.Prelude.{map}
use Rattle.nr_saving.proofs.Steps.{HasWritten}
use Rattle.nr_saving.proofs.parts.save_parts.Given as goal

-- what writing the pieces that are left leads to, saving all of them leads to
abbrev pub invariant-loop-i : goal.invariant-loop-i
invariant-loop-i g l = HasWritten l.name (map (λ part. part.now) l.parts) (g.F.Files.disk l.fn.files) (g.F.Files.disk l.files) l.at l.i
