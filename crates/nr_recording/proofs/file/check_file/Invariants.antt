use Rattle.std.proofs.Common.{◌≡◌, ◌-◌, ◌≤◌, length}
use Rattle.nr_spec_wire.specs.Reading.{rows_at}
use Rattle.nr_spec_bgp.specs.Records.{record_at}
use Rattle.nr_spec_recording.specs.Records.{records_of}
use Rattle.nr_recording.specs.Views.{speakers_of}
use Rattle.nr_recording.specs.Files.{told, counted_to_end}
use Rattle.nr_recording.proofs.file.check_file.Given as goal

-- What was told so far and what is left tell what the whole file does.
abbrev pub invariant-loop : goal.invariant-loop
invariant-loop l = record {
  few : l.facts.skipped ≤ l.counter;
  total : counted_to_end (speakers_of l.neighbours) l.facts (rows_at record_at (length l.bytes - l.counter) l.ahead) ≡ told (speakers_of l.neighbours) (records_of l.bytes);
}
