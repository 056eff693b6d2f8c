use Rattle.std.proofs.Common.{◌≤◌, length, drop}
use Rattle.nr_recording.specs.Merges.{IsSoonest}
use Rattle.nr_recording.proofs.merge.soonest.Given as goal

-- The soonest of the files from this place on is found.
abbrev pub invariant-loop-place : goal.invariant-loop-place
invariant-loop-place l = record { within : l.place ≤ length l.sources; found : IsSoonest l.found l.place (drop l.place l.sources) }

abbrev pub decreases-loop-place : goal.decreases-loop-place
decreases-loop-place l = l.place
