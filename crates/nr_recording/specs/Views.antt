-- What this crate's types stand for in the definitions.
use Rattle.std.specs.Prelude.{ℕ, List, [], map, Result, Ok, Err}
use Rattle.nr_spec_bgp.specs.Records.{Item}
use Rattle.nr_spec_recording.specs.Records as records
use Rattle.nr_recording.specs.declared.mrt_file.MrtFile.{MrtFile}
use Rattle.nr_recording.specs.declared.speaker.Speaker.{Speaker}

abbrev pub speaker_of : Speaker → records.Speaker
speaker_of s = record { asn = s.asn; addr = s.addr }

abbrev pub speakers_of : List Speaker → List records.Speaker
speakers_of neighbours = map speaker_of neighbours

-- the records of bytes that read
abbrev pub items_in : Result (List Item) ℕ → List Item
items_in (Ok items) = items
items_in (Err place) = []

-- a file by its records
abbrev pub items_of : MrtFile → List Item
items_of file = items_in (records.records_of file.bytes.items)
