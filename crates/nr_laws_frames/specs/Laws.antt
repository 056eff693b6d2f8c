-- Items that fit after an item of this time.
use Rattle.std.specs.Prelude.{◌≡◌, ◌≤◌, ℕ, List, length}
use Rattle.nr_spec_frames.specs.Frames.{AreItemsFrom, FrameItem, IsItem, item_time}

pub record IsNextItem (last : ℕ) (i : FrameItem) : Type 0 where
  pub is_one : IsItem i
  pub not_before : last ≤ item_time i

-- so many items, whose times don't run back
pub record AreNextItems (last count : ℕ) (items : List FrameItem) : Type 0 where
  pub fit : AreItemsFrom last items
  pub as_many : length items ≡ count
