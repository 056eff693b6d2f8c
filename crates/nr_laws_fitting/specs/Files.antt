-- Files that hold bytes.
use Rattle.std.specs.Prelude.{◌<◌, ◌^◌, ℕ, List, unwrap_or}
use Rattle.nr_spec_wire.specs.Reading.{IsBytes}
use Rattle.nr_spec_plans.specs.Disk.{Contents, bytes_of}
use Rattle.nr_spec_plans.specs.Laws.{IsAmong}
use Rattle.nr_spec_commands.specs.Words.{RecordRequest}

-- The log and the MRT files of a request hold bytes, and the time of its end has eight.
pub record HoldBytes (held : Contents) (q : RecordRequest) : Type 0 where
  pub log : IsBytes (bytes_of (held q.log))
  pub files : (name : List ℕ) → IsAmong name q.files → IsBytes (bytes_of (held name))
  pub until : unwrap_or q.until 0 < 2 ^ 64
