use Rattle.std.proofs.Common.{◌≡◌, map, take}
use Rattle.nr_spec_program.specs.Recording.{speaker_of}
use Rattle.nr_recording.specs.Views.{speakers_of}
use Rattle.nr_log_commands.proofs.recording.speakers_in.Given as goal

-- The neighbours so far are there.
abbrev pub invariant-loop-neighbour : goal.invariant-loop-neighbour
invariant-loop-neighbour l = speakers_of l.speakers.items ≡ map speaker_of (take l.neighbour-index l.neighbours)
