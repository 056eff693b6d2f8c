-- Receipts are matched one by one.
use Rattle.std.specs.Prelude.{◌≡◌, ℕ, ◌+◌, ◌-◌, ◌<◌, ◌≤◌, if◌then◌else◌, List, ◌∷◌, length, drop, nat_lt, Option, None, Some}
use Rattle.nr_spec_frames.specs.Frames.{FrameItem}
use Rattle.nr_spec_frames.specs.Verdicts.{Disputed, matched, receipt_in}

-- The first message from a place on that has these bytes, or none: so the matching goes on after it, or ends.
abbrev pub Finds : (pending : List (List ℕ)) (from : ℕ) (raw : List ℕ) → Option ℕ → Type 0
Finds pending from raw (Some at) =
    (from ≤ at) × (at < length pending)
    × ((upto i : ℕ) (others : List (List ℕ)) → matched upto i (raw ∷ others) (drop from pending)
    ≡ matched (upto + (at + 1 - from)) (i + 1) others (drop (at + 1) pending))
Finds pending from raw None =
    (upto i : ℕ) (others : List (List ℕ)) → matched upto i (raw ∷ others) (drop from pending) ≡ Disputed i

-- the receipt in the item of entry `seq`, where that stands after the accepted one
abbrev pub receipt_if : (number accepted seq : ℕ) → FrameItem → Option (List ℕ)
receipt_if number accepted seq item = if nat_lt accepted seq then receipt_in number item else None
