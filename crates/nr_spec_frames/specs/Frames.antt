-- Frames: what one network shows a neighbour of its log, and files of them. Numbers have their highest byte first.
use Rattle.std.specs.Prelude.{◌≡◌, ℕ, zero, suc, ◌^◌, ◌<◌, ◌≤◌, Bool, true, false, ◌&&◌, ◌==◌, nat_lt, nat_le, List, [], ◌∷◌, ◌++◌, length, Result, Ok, codes}
use Rattle.std.specs.List.{AllByRecursion, flat_map}
use Rattle.byteorder.specs.Endian.{big_bytes}
use Rattle.nr_spec_wire.specs.Reading.{Spot, Read, ◌>>=◌, all_rows_at, bytes_at, ends_at, number_at, start_of, wants}
use Rattle.nr_spec_log.specs.Chain.{LogEntry}
use Rattle.nr_spec_log.specs.Authenticator.{Authenticator, IsAuthenticator, authenticator, authenticator_at, digest_size, magic_at}
use Rattle.nr_spec_log.specs.Answer.{IsEntry, entry, is_first, most_first}
use Rattle.nr_spec_entry.specs.Contents.{most_neighbours}

-- an entry that is shown, or the digest of one whose content is hidden
pub data FrameItem : Type 0 where
  Shown : (entry : LogEntry) → FrameItem
  Hidden : (time : ℕ) (kind : ℕ) (digest : List ℕ) → FrameItem

-- entries one after another, and the signed head of the last
pub record Frame : Type 0 where
  pub from_as : ℕ
  pub to_as : ℕ
  pub number : ℕ  -- the number that the sender uses for this neighbour
  pub first : ℕ  -- the number of the first entry
  pub prev : List ℕ  -- the chain value before it
  pub items : List FrameItem
  pub auth : Authenticator  -- of the last entry

-- the greatest number of items of a frame
abbrev pub most_items : ℕ
most_items = 16777216

-- ---- spelling

-- a tag, and the entry, or its time, its kind and the digest of its content
abbrev pub frame_item : FrameItem → List ℕ
frame_item (Shown e) = big_bytes 1 1 ++ entry e
frame_item (Hidden time kind digest) = big_bytes 1 0 ++ (big_bytes 8 time ++ (big_bytes 1 kind ++ digest))

-- what stands before the items
abbrev pub frame_front : (from_as to_as number first : ℕ) (prev : List ℕ) (count : ℕ) → List ℕ
frame_front from_as to_as number first prev count =
    big_bytes 4 from_as ++ (big_bytes 4 to_as ++ (big_bytes 2 number ++ (big_bytes 8 first
    ++ (prev ++ big_bytes 4 count))))

unfoldable pub frame : Frame → List ℕ
frame f =
    frame_front f.from_as f.to_as f.number f.first f.prev (length f.items)
    ++ (flat_map frame_item f.items ++ authenticator f.auth)

abbrev pub item_time : FrameItem → ℕ
item_time (Shown e) = e.time
item_time (Hidden time kind digest) = time

abbrev pub IsItem : FrameItem → Type 0
IsItem (Shown e) = IsEntry e
IsItem (Hidden time kind digest) = (time < 2 ^ 64) × (kind < 256) × (length digest ≡ digest_size)

-- items that fit, whose times don't run back after this one
abbrev pub AreItemsFrom : ℕ → List FrameItem → Type 0
AreItemsFrom last [] = Unit {0}
AreItemsFrom last (i ∷ is) = IsItem i × (last ≤ item_time i) × AreItemsFrom (item_time i) is

-- what has a spelling
pub record IsFrame (f : Frame) : Type 0 where
  pub from_as : f.from_as < 2 ^ 32
  pub to_as : f.to_as < 2 ^ 32
  pub number : f.number < most_neighbours
  pub start : 1 ≤ f.first
  pub first : f.first ≤ most_first
  pub prev : length f.prev ≡ digest_size
  pub least : 1 ≤ length f.items
  pub most : length f.items ≤ most_items
  pub items : AreItemsFrom 0 f.items
  pub auth : IsAuthenticator f.auth

-- ---- reading

-- after tag, time and kind: the content of an entry that is shown, or the digest of one that is hidden
unfoldable pub inside_at : Bool → ℕ → ℕ → Spot → Read FrameItem
inside_at true time kind s = do
  size ← number_at 2 s
  content ← bytes_at size.0 size.1
  Ok (Shown (record { time = time; kind = kind; content = content.0 }), content.1)
inside_at false time kind s = do
  digest ← bytes_at digest_size s
  Ok (Hidden time kind digest.0, digest.1)

-- an item not before the last time
unfoldable pub item_at : ℕ → Spot → Read FrameItem
item_at last s = do
  any_tag ← number_at 1 s
  tag ← wants (nat_le any_tag.0 1) s.at any_tag
  any_time ← number_at 8 tag.1
  time ← wants (nat_le last any_time.0) tag.1.at any_time
  kind ← number_at 1 time.1
  inside_at (tag.0 == 1) time.0 kind.0 kind.1

-- so many items, whose times don't run back
unfoldable pub items_at : ℕ → ℕ → Spot → Read (List FrameItem)
items_at last zero s = Ok ([], s)
items_at last (suc n) s = do
  first ← item_at last s
  others ← items_at (item_time first.0) n first.1
  Ok (first.0 ∷ others.0, others.1)

-- what stands before the items
pub record FrameFront : Type 0 where
  pub from_as : ℕ
  pub to_as : ℕ
  pub number : ℕ
  pub first : ℕ
  pub prev : List ℕ
  pub count : ℕ

abbrev pub is_count : ℕ → Bool
is_count count = nat_le 1 count && nat_le count most_items

unfoldable pub front_at : Spot → Read FrameFront
front_at s = do
  from_as ← number_at 4 s
  to_as ← number_at 4 from_as.1
  any_number ← number_at 2 to_as.1
  number ← wants (nat_lt any_number.0 most_neighbours) to_as.1.at any_number
  any_first ← number_at 8 number.1
  first ← wants (is_first any_first.0) number.1.at any_first
  prev ← bytes_at digest_size first.1
  any_count ← number_at 4 prev.1
  count ← wants (is_count any_count.0) prev.1.at any_count
  Ok (
    record {
      from_as = from_as.0;
      to_as = to_as.0;
      number = number.0;
      first = first.0;
      prev = prev.0;
      count = count.0;
    },
    count.1,
  )

abbrev pub frame_with : FrameFront → List FrameItem → Authenticator → Frame
frame_with f items auth = record {
  from_as = f.from_as;
  to_as = f.to_as;
  number = f.number;
  first = f.first;
  prev = f.prev;
  items = items;
  auth = auth;
}

-- What the authenticator speaks of isn't looked at here, nor what stands inside the contents.
unfoldable pub frame_of : List ℕ → Result Frame ℕ
frame_of bytes = do
  front ← front_at (start_of bytes)
  items ← items_at 0 front.0.count front.1
  auth ← authenticator_at items.1
  ends_at auth.1 (frame_with front.0 items.0 auth.0)

-- ---- files of frames

abbrev pub frames_magic : List ℕ
frames_magic = codes "NRF1"

-- The greatest size in bytes with which such a file is to be written. Reading doesn't ask it and takes longer files.
abbrev pub most_frames : ℕ
most_frames = 1073741824

-- a frame's bytes after their length
abbrev pub framed : List ℕ → List ℕ
framed bytes = big_bytes 4 (length bytes) ++ bytes

-- four bytes, and the bytes of frames to the end
abbrev pub frames_file : List (List ℕ) → List ℕ
frames_file frames = frames_magic ++ flat_map framed frames

abbrev pub IsFramed : List ℕ → Type 0
IsFramed bytes = length bytes < 2 ^ 32

abbrev pub AreFramed : List (List ℕ) → Type 0
AreFramed frames = AllByRecursion IsFramed frames

unfoldable pub framed_at : Spot → Read (List ℕ)
framed_at s = do
  size ← number_at 4 s
  bytes_at size.0 size.1

-- What stands inside a frame's bytes isn't looked at: one that isn't a frame leaves the others as they are.
unfoldable pub frames_of : List ℕ → Result (List (List ℕ)) ℕ
frames_of bytes = do
  magic ← magic_at frames_magic (start_of bytes)
  frames ← all_rows_at framed_at magic.1
  Ok frames.0
