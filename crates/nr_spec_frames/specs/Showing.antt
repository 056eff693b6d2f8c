-- What a frame shows of a log: each neighbour sees the entries that name it, and of all others their digests.
use Rattle.std.specs.Prelude.{◌≡◌, ℕ, ◌+◌, ◌<◌, ◌≤◌, if◌then◌else◌, Bool, false, ◌==◌, List, length, map, take, drop, Option, Some}
use Rattle.sha2.specs.Sha256.{sha256}
use Rattle.nr_spec_log.specs.Chain.{LogEntry}
use Rattle.nr_spec_entry.specs.Contents.{Content, Send, Recv, State, Ack, Commit}
use Rattle.nr_spec_entry.specs.ContentReading.{content_of}
use Rattle.nr_spec_frames.specs.Frames.{Frame, FrameItem, Shown, Hidden}

-- A content names a neighbour: a message to it or from it, a state of it, an ACK of it or a COMMIT to it.
abbrev pub names : ℕ → Option Content → Bool
names n (Some (Send m as4 raw)) = m == n
names n (Some (Recv m as4 raw)) = m == n
names n (Some (State m old new)) = m == n
names n (Some (Ack m upto seq time hash sig)) = m == n
names n (Some (Commit m leaf)) = m == n
names n other = false

-- an entry as a neighbour sees it: shown where it names the neighbour, else hidden
abbrev pub seen_by : ℕ → LogEntry → FrameItem
seen_by n e = if names n (content_of e) then Shown e else Hidden e.time e.kind (sha256 e.content)

-- A frame shows neighbour n the entries after + 1 to k of a log. Its other fields aren't asked: the chain value before
-- the first entry, the authenticator, both AS numbers and the number.
pub record Shows (n : ℕ) (log : List LogEntry) (after k : ℕ) (f : Frame) : Type 0 where
  pub some : after < k
  pub within : k ≤ length log
  pub first : f.first ≡ after + 1
  pub items : f.items ≡ map (seen_by n) (drop after (take k log))
