-- What a recorder is, and what it may be told.
use Rattle.std.specs.Prelude.{ℕ, ◌*◌, ◌+◌, ◌++◌, ◌<◌, ◌^◌, ◌||◌, ◌≡◌, ◌≤◌, [], ◌∷◌, Bool, IsTrue, List, Ok, Some, length, true}
use Rattle.std.specs.List.{AllByRecursion}
use Rattle.nr_spec_wire.specs.Reading.{IsBytes}
use Rattle.nr_spec_log.specs.Chain.{LogEntry}
use Rattle.nr_spec_log.specs.Authenticator.{digest_size}
use Rattle.nr_spec_entry.specs.Contents.{Ack, Content, most_delay, most_neighbours}
use Rattle.nr_spec_counts.specs.Tallies.{Numbers, Tally}
use Rattle.nr_spec_steps.specs.Events.{Begin, Close, Event, FrameCame, Heard, Said, StateChanged, is_begin}
use Rattle.nr_spec_steps.specs.Steps.{Recorder, core_step, is_in_force, known}
use Rattle.nr_spec_steps.specs.Turns.{turn, with_turn}

-- ---- recorders

-- the numbers of a promise file that is typed, and its digest
pub record IsOwn (own : Numbers) : Type 0 where
  pub digest : length own.digest ≡ digest_size
  pub count : own.count ≤ most_neighbours
  pub delay : own.delay ≤ most_delay

-- An ACK of a neighbour of the own file, whose place isn't before the last one's nor behind the last message sent.
abbrev pub IsFairAck : Numbers → Tally → Content → Type 0
IsFairAck own t (Ack n upto seq time hash sig) =
    (n < own.count) × (t.acked n ≤ upto) × (upto ≤ t.sends n) × (seq < 2 ^ 64) × (time < 2 ^ 64)
    × (length hash ≡ digest_size) × (length sig ≡ digest_size)
IsFairAck own t other = ⊥

-- What it acknowledges of bytes that came as a frame is a fair ACK, behind each log in which no neighbour acknowledges
-- more than was sent to it.
abbrev pub AcknowledgesFairly : Recorder → Type 0
AcknowledgesFairly r =
    (log : List LogEntry) (bytes : List ℕ) (content : Content) → IsBytes bytes
    → ((n : ℕ) → (known log).acked n ≤ (known log).sends n)
    → r.acknowledged log bytes ≡ Some content → IsFairAck r.own (known log) content

-- a recorder with a typed promise file and a key of a height, that acknowledges fairly
pub record IsRecorder (r : Recorder) : Type 0 where
  pub own : IsOwn r.own
  pub height : ℕ
  pub least : 1 ≤ height
  pub most : height ≤ 16
  pub leaves : r.leaves ≡ 2 ^ height
  pub fair : AcknowledgesFairly r

-- ---- events

-- it names a neighbour of the own file and states of two bytes, and a frame is bytes
abbrev pub IsNamed : Numbers → Event → Type 0
IsNamed own (Begin time) = Unit {0}
IsNamed own (Heard time n as4 raw) = n < own.count
IsNamed own (Said time n as4 raw) = n < own.count
IsNamed own (StateChanged time n old new) = (n < own.count) × (old < 2 ^ 16) × (new < 2 ^ 16)
IsNamed own (FrameCame bytes) = IsBytes bytes
IsNamed own (Close time) = Unit {0}

-- what a step asks of an event: the own promise is in force, but where a turn begins, and the log has room
pub record MayCome (r : Recorder) (log : List LogEntry) (event : Event) : Type 0 where
  pub named : IsNamed r.own event
  pub begun : IsTrue (is_begin event || is_in_force r.own (known log).in_force)
  pub room : length log < 2 ^ 61

-- the same of each event of a turn, where the events before it leave a log
abbrev pub MayAllCome : Recorder → List LogEntry → List Event → Type 0
MayAllCome r log [] = Unit {0}
MayAllCome r log (event ∷ events) =
    MayCome r log event
    × ((batch : List LogEntry) → core_step r log event ≡ Ok batch → MayAllCome r (log ++ batch) events)

-- and of each turn
abbrev pub MayAllTurn : Recorder → List LogEntry → List (List Event) → Type 0
MayAllTurn r log [] = Unit {0}
MayAllTurn r log (first ∷ others) =
    MayAllCome r log first × MayAllTurn r (with_turn log (turn r log first)) others

-- ---- turns that may come

-- a turn that begins, or one without events
abbrev pub starts : List Event → Bool
starts [] = true
starts (event ∷ events) = is_begin event

-- What can be seen of a turn before it comes. An event appends fewer entries than 1,024.
pub record IsReady (r : Recorder) (log : List LogEntry) (events : List Event) : Type 0 where
  pub begun : IsTrue (starts events || is_in_force r.own (known log).in_force)
  pub named : AllByRecursion (IsNamed r.own) events
  pub room : length log + 1024 * length events < 2 ^ 61

-- ---- events whose entries fit

-- the longest message that leaves room in an entry for the neighbour and the flag
abbrev pub most_raw : ℕ
most_raw = 65532

-- its time has eight bytes, and its message leaves that room
abbrev pub IsRoomy : Event → Type 0
IsRoomy (Begin time) = time < 2 ^ 64
IsRoomy (Heard time n as4 raw) = (time < 2 ^ 64) × (length raw ≤ most_raw)
IsRoomy (Said time n as4 raw) = (time < 2 ^ 64) × (length raw ≤ most_raw)
IsRoomy (StateChanged time n old new) = time < 2 ^ 64
IsRoomy (FrameCame bytes) = Unit {0}
IsRoomy (Close time) = time < 2 ^ 64
