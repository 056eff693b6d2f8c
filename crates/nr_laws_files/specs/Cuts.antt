-- A field that isn't all there.
use Rattle.std.specs.Prelude.{ℕ, ◌+◌, ◌<◌, ◌≤◌, List, length}

-- The bytes have all that stands before the field of this size at this place, and end before the field does.
pub record IsCut (bytes : List ℕ) (at size : ℕ) : Type 0 where
  pub reaches : at ≤ length bytes
  pub ends : length bytes < at + size
