-- The contents of entries, one form for each kind: what they hold, their spelling and their ranges.
use Rattle.std.specs.Prelude.{ℕ, ◌++◌, ◌<◌, ◌^◌, ◌≡◌, ◌≤◌, ◌⊎◌, Bool, List, false, length, true}
use Rattle.byteorder.specs.Endian.{big_bytes}
use Rattle.nr_spec_log.specs.Authenticator.{digest_size}

pub data Content : Type 0 where
  -- a message to a neighbour: whether its AS numbers have four bytes, and the message as it was sent
  Send : (neighbour : ℕ) (as4 : Bool) (raw : List ℕ) → Content
  -- a message from a neighbour
  Recv : (neighbour : ℕ) (as4 : Bool) (raw : List ℕ) → Content
  -- the session with a neighbour went from one state to another (RFC 4271, section 8.2.2)
  State : (neighbour : ℕ) (old : ℕ) (new : ℕ) → Content
  -- a neighbour's signed statement on its log: its receipts stand in order up to so many messages to it
  Ack : (neighbour : ℕ) (upto : ℕ) (seq : ℕ) (time : ℕ) (hash : List ℕ) (sig : List ℕ) → Content
  -- a head that is signed with a leaf, for a neighbour or for the auditor
  Commit : (neighbour : ℕ) (leaf : ℕ) → Content
  -- the digest of the checkpoint body
  Checkpoint : (body : List ℕ) → Content
  -- the promise file: its digest, how many neighbours it has, and its commit delay in seconds
  Promise : (file : List ℕ) (count : ℕ) (delay : ℕ) → Content

-- neighbours are numbered from 0
abbrev pub most_neighbours : ℕ
most_neighbours = 256

-- the auditor, where a COMMIT names a neighbour
abbrev pub auditor : ℕ
auditor = 65535

-- the longest commit delay: a year in seconds
abbrev pub most_delay : ℕ
most_delay = 31536000

-- the kind of a PROMISE
abbrev pub promise_kind : ℕ
promise_kind = 7

abbrev pub kind_of : Content → ℕ
kind_of (Send neighbour as4 raw) = 1
kind_of (Recv neighbour as4 raw) = 2
kind_of (State neighbour old new) = 3
kind_of (Ack neighbour upto seq time hash sig) = 4
kind_of (Commit neighbour leaf) = 5
kind_of (Checkpoint body) = 6
kind_of (Promise file count delay) = promise_kind

-- ---- spelling: numbers have their highest byte first

abbrev pub flag : Bool → ℕ
flag false = 0
flag true = 1

-- a neighbour, the flag of four-byte AS numbers, and the message to the end
abbrev pub exchange_bytes : ℕ → Bool → List ℕ → List ℕ
exchange_bytes neighbour as4 raw = big_bytes 2 neighbour ++ (big_bytes 1 (flag as4) ++ raw)

abbrev pub content_bytes : Content → List ℕ
content_bytes (Send neighbour as4 raw) = exchange_bytes neighbour as4 raw
content_bytes (Recv neighbour as4 raw) = exchange_bytes neighbour as4 raw
content_bytes (State neighbour old new) = big_bytes 2 neighbour ++ (big_bytes 2 old ++ big_bytes 2 new)
content_bytes (Ack neighbour upto seq time hash sig) =
    big_bytes 2 neighbour ++ (big_bytes 8 upto ++ (big_bytes 8 seq ++ (big_bytes 8 time ++ (hash ++ sig))))
content_bytes (Commit neighbour leaf) = big_bytes 2 neighbour ++ big_bytes 4 leaf
content_bytes (Checkpoint body) = body
content_bytes (Promise file count delay) = file ++ (big_bytes 2 count ++ big_bytes 4 delay)

-- what has a spelling
abbrev pub IsContent : Content → Type 0
IsContent (Send neighbour as4 raw) = neighbour < most_neighbours
IsContent (Recv neighbour as4 raw) = neighbour < most_neighbours
IsContent (State neighbour old new) = (neighbour < most_neighbours) × (old < 2 ^ 16) × (new < 2 ^ 16)
IsContent (Ack neighbour upto seq time hash sig) =
    (neighbour < most_neighbours) × (upto < 2 ^ 64) × (seq < 2 ^ 64) × (time < 2 ^ 64)
    × (length hash ≡ digest_size) × (length sig ≡ digest_size)
IsContent (Commit neighbour leaf) = ((neighbour < most_neighbours) ⊎ (neighbour ≡ auditor)) × (leaf < 2 ^ 32)
IsContent (Checkpoint body) = length body ≡ digest_size
IsContent (Promise file count delay) = (length file ≡ digest_size) × (count ≤ most_neighbours) × (delay ≤ most_delay)
