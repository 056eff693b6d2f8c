use Rattle.std.proofs.Common.{ℕ, ◌≡◌, ◌-◌, ◌≤◌, length, take, Some}
use Rattle.nr_spec_plans.specs.Disk.{Told, bytes_of, read, ticked}
use Rattle.nr_ports.proofs.Pieces.{SoFar}
use Rattle.nr_ports.proofs.whole.fill.Given as goal

abbrev pub invariant-loop-at : goal.invariant-loop-at
invariant-loop-at g l = record {
  within : l.at ≤ length l.into;
  front : (t : Told) → (g.F.Files.disk l.fn.files).told ≡ Some t → take l.at l.into ≡ take l.at (bytes_of (t.holds l.name));
  disk : (calls : ℕ) × (g.F.Files.disk l.files ≡ read l.at (ticked calls (g.F.Files.disk l.fn.files)))
      × ((t : Told) → (g.F.Files.disk l.fn.files).told ≡ Some t → SoFar l.name (length l.fn.into) l.at calls t);
}

abbrev pub decreases-loop-at : goal.decreases-loop-at
decreases-loop-at g l = length l.into - l.at
