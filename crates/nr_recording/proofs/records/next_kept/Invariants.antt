use Rattle.std.proofs.Common.{◌≡◌, length}
use Rattle.nr_spec_recording.specs.Records.{kept_of}
use Rattle.nr_recording.specs.Views.{speakers_of}
use Rattle.nr_recording.proofs.records.next_kept.Given as goal

-- The records that were passed over make no events.
abbrev pub invariant-loop-item : goal.invariant-loop-item
invariant-loop-item l = kept_of (speakers_of l.neighbours) l.items ≡ kept_of (speakers_of l.neighbours) l.initial.items

abbrev pub decreases-loop-item : goal.decreases-loop-item
decreases-loop-item l = length l.items
