-- What is written of a frame.
use Rattle.std.specs.Prelude.{◌≡◌, ℕ, ◌<◌, ◌≤◌, List, Result, Ok, Err, length, ⊤}
use Rattle.nr_spec_log.specs.Authenticator.{Authenticator}
use Rattle.nr_spec_frames.specs.Frames.{Frame, FrameItem, frame, most_items}
use Rattle.nr_exchange.specs.declared.writing.FrameError.{FrameError}
use Rattle.nr_exchange.specs.declared.writing.FrameError.TheVariants.{TooLong, Memory}

-- the frame of these parts
abbrev pub frame_made : (from_as to_as number first : ℕ) (prev : List ℕ) → List FrameItem → Authenticator → Frame
frame_made from_as to_as number first prev items auth = record {
  from_as = from_as;
  to_as = to_as;
  number = number;
  first = first;
  prev = prev;
  items = items;
  auth = auth;
}

-- The frame is written, or it has more items than a frame may have and the error tells how many; memory may always run
-- out.
abbrev pub Writes : {V : Type 0} → (V → List ℕ) → Result V FrameError → Frame → Type 0
Writes bytes (Ok out) f = (bytes out ≡ frame f) × (length f.items ≤ most_items)
Writes bytes (Err (TooLong n)) f = (n ≡ length f.items) × (most_items < length f.items)
Writes bytes (Err Memory) f = ⊤

-- there are too many items, and how many
abbrev pub SaysLong : FrameError → (count : ℕ) → Type 0
SaysLong (TooLong n) count = (n ≡ count) × (most_items < count)
SaysLong Memory count = ⊤
