use Rattle.std.proofs.Common.{◌≡◌, map, take}
use Rattle.nr_spec_recording.specs.Records.{kept_of}
use Rattle.nr_recording.specs.Views.{speakers_of, items_of}
use Rattle.nr_recording.proofs.merge.Merge.new.Given as goal

-- The files so far have their events.
abbrev pub invariant-loop-file : goal.invariant-loop-file
invariant-loop-file l = l.sources.items ≡ map (kept_of (speakers_of l.neighbours)) (map items_of (take l.file-index l.files))
