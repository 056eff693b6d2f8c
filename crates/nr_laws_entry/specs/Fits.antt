-- What an entry can hold.
use Rattle.std.specs.Prelude.{ℕ, ◌≤◌, length}
use Rattle.nr_spec_wire.specs.Reading.{IsBytes}
use Rattle.nr_spec_log.specs.Chain.{LogEntry}
use Rattle.nr_spec_entry.specs.Contents.{Ack, Checkpoint, Commit, Content, IsContent, Promise, Recv, Send, State, content_bytes, kind_of}

-- what a content holds as it is, and not as a number, is bytes
abbrev pub HasBytes : Content → Type 0
HasBytes (Send neighbour as4 raw) = IsBytes raw
HasBytes (Recv neighbour as4 raw) = IsBytes raw
HasBytes (State neighbour old new) = Unit {0}
HasBytes (Ack neighbour upto seq time hash sig) = IsBytes hash × IsBytes sig
HasBytes (Commit neighbour leaf) = Unit {0}
HasBytes (Checkpoint body) = IsBytes body
HasBytes (Promise file count delay) = IsBytes file

-- the longest message: a content has at most 65,535 bytes, three of them before the message
abbrev pub most_message : ℕ
most_message = 65532

abbrev pub IsShort : Content → Type 0
IsShort (Send neighbour as4 raw) = length raw ≤ most_message
IsShort (Recv neighbour as4 raw) = length raw ≤ most_message
IsShort other = Unit {0}

-- an entry can hold it: it is in its ranges, what it holds as it is are bytes, and its message isn't too long
pub record FitsEntry (c : Content) : Type 0 where
  pub ranges : IsContent c
  pub bytes : HasBytes c
  pub short : IsShort c

-- the entry of a content
abbrev pub made : ℕ → Content → LogEntry
made time c = record { time = time; kind = kind_of c; content = content_bytes c }
