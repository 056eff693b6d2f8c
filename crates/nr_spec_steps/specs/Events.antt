-- What a recorder is told.
use Rattle.std.specs.Prelude.{ℕ, Bool, List, false, true}

pub data Event : Type 0 where
  -- a turn begins
  Begin : (time : ℕ) → Event
  -- a message came from a neighbour: whether its AS numbers have four bytes, and the message as it came
  Heard : (time : ℕ) (neighbour : ℕ) (as4 : Bool) (raw : List ℕ) → Event
  -- a message was sent to a neighbour
  Said : (time : ℕ) (neighbour : ℕ) (as4 : Bool) (raw : List ℕ) → Event
  -- the session with a neighbour went from one state to another (RFC 4271, section 8.2.2)
  StateChanged : (time : ℕ) (neighbour : ℕ) (old : ℕ) (new : ℕ) → Event
  -- any bytes came as a frame
  FrameCame : (bytes : List ℕ) → Event
  -- heads are to be signed for all who wait, and for the auditor
  Close : (time : ℕ) → Event

-- when it happened, in microseconds; a frame has no time of its own
abbrev pub time_of : Event → ℕ
time_of (Begin time) = time
time_of (Heard time n as4 raw) = time
time_of (Said time n as4 raw) = time
time_of (StateChanged time n old new) = time
time_of (FrameCame bytes) = 0
time_of (Close time) = time

abbrev pub is_begin : Event → Bool
is_begin (Begin time) = true
is_begin event = false

abbrev pub is_close : Event → Bool
is_close (Close time) = true
is_close event = false
