-- What a crash may leave of a file.
use Rattle.std.specs.Prelude.{◌≡◌, ◌≢◌, ℕ, ◌≤◌, ◌<◌, Bool, false, List, length, get_or, nat_le, nat_lt, ◌&&◌}
use Rattle.std.specs.List.{list_any}
use Rattle.nr_spec_plans.specs.Disk.{Loose, Moment, Range, bytes_of}

-- A place is in one of these ranges.
abbrev pub is_in : ℕ → List Range → Bool
is_in place ranges = list_any (λ range. nat_le range.from place && nat_lt place range.to) ranges

-- A crash may leave these bytes of a file of which a read gives those: the length lies between the least and the
-- greatest since the last sync, and each byte below the least length that wasn't written since then stays. So what was
-- written, and what stands past the least length, may be any bytes.
pub record IsImageOf (l : Loose) (file image : List ℕ) : Type 0 where
  pub no_shorter : l.least ≤ length image
  pub no_longer : length image ≤ l.greatest
  pub stays : (place : ℕ) → place < l.least → is_in place l.written ≡ false → get_or image place 0 ≡ get_or file place 0

-- the same under a name; an absent file has no bytes
abbrev pub IsImage : Moment → (name image : List ℕ) → Type 0
IsImage m name image = IsImageOf (m.loose name) (bytes_of (m.holds name)) image

-- Something is pending under a name: a crash may leave something else than a read gives.
abbrev pub IsPending : Moment → (name : List ℕ) → Type 0
IsPending m name = (image : List ℕ) × IsImage m name image × (image ≢ bytes_of (m.holds name))
