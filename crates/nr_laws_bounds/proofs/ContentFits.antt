-- What is known of a content that is read.
use Rattle.std.proofs.Common.{◌≡◌, ℕ, ◌^◌, ◌<◌, ◌≤◌, length, Option, Some, None, refl}
use Rattle.nr_spec_wire.specs.Reading.{IsBytes}
use Rattle.nr_spec_log.specs.Chain.{LogEntry}
use Rattle.nr_spec_log.specs.Authenticator.{digest_size}
use Rattle.nr_spec_entry.specs.Contents.{Ack, Checkpoint, Commit, Content, IsContent, Promise, Recv, Send, State, most_delay, most_neighbours}
use Rattle.nr_spec_entry.specs.ContentReading.{content_of}
use Rattle.nr_laws_entry.specs.Fits.{HasBytes}
use Rattle.nr_laws_entry.proofs.Found.{content_found}

-- what rows and counts need of it
abbrev pub IsFull : Content → Type 0
IsFull (Send n as4 raw) = (n < most_neighbours) × IsBytes raw
IsFull (Recv n as4 raw) = (n < most_neighbours) × IsBytes raw
IsFull (State n old new) = n < most_neighbours
IsFull (Ack n upto seq time hash sig) = (n < most_neighbours) × (upto < 2 ^ 64)
IsFull (Commit n leaf) = Unit {0}
IsFull (Checkpoint body) = Unit {0}
IsFull (Promise file count delay) = (length file ≡ digest_size) × (count ≤ most_neighbours) × (delay ≤ most_delay)

-- of any content, or none
abbrev pub IsFullOr : Option Content → Type 0
IsFullOr None = Unit {0}
IsFullOr (Some c) = IsFull c

full : (c : Content) → IsContent c → HasBytes c → IsFull c
full (Send n as4 raw) h b = (h, b)
full (Recv n as4 raw) h b = (h, b)
full (State n old new) h b = h.0
full (Ack n upto seq time hash sig) h b = (h.0, h.1)
full (Commit n leaf) h b = tt
full (Checkpoint body) h b = tt
full (Promise file count delay) h b = h

pub content_full : (e : LogEntry) → IsBytes e.content → IsFullOr (content_of e)
content_full e fits = by (content_of e) refl
  where
    by : (o : Option Content) → content_of e ≡ o → IsFullOr o
    by None h = tt
    by (Some c) h = let found = content_found e.kind e.content c fits h in full c found.2 found.3
