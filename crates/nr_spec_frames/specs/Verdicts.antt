-- What a network makes of a frame, from what it knows of the neighbour.
use Rattle.std.specs.Prelude.{ℕ, ◌+◌, ◌-◌, if◌then◌else◌, Bool, ◌&&◌, ◌==◌, not, nat_lt, nat_le, List, [], ◌∷◌, length, drop, take, Option, None, Some}
use Rattle.std.specs.List.{filter_map}
use Rattle.std.specs.Str.{bytes_eq}
use Rattle.nr_spec_log.specs.Chain.{Chain, ChainItem, chained, shown}
use Rattle.nr_spec_history.specs.Conflicts.{is_signed}
use Rattle.nr_spec_entry.specs.Contents.{Content, Recv}
use Rattle.nr_spec_entry.specs.ContentReading.{content_of}
use Rattle.nr_spec_frames.specs.Frames.{Frame, FrameItem, Shown, Hidden, item_time}

-- what one network knows of a neighbour
pub record View : Type 0 where
  pub root : List ℕ  -- of the neighbour's key
  pub number : ℕ  -- the number that the neighbour uses for this session
  pub seq : ℕ  -- the last accepted number of an entry, 0 before the first
  pub hash : List ℕ  -- and its chain value, the genesis value before the first
  pub upto : ℕ  -- how many of the messages to it are acknowledged
  pub pending : List (List ℕ)  -- the messages to it after these

pub data Verdict : Type 0 where
  Accepted : (upto : ℕ) → Verdict
  Old : Verdict
  Unsigned : Verdict
  Unlinked : Verdict
  Conflict : (seq : ℕ) (kept : List ℕ) (found : List ℕ) → Verdict
  Disputed : (receipt : ℕ) → Verdict

-- ---- what the items of a frame say

abbrev pub chain_item : FrameItem → ChainItem
chain_item (Shown e) = shown e
chain_item (Hidden time kind digest) = record { time = time; kind = kind; digest = digest }

-- the chain after items
abbrev pub chain_after : Chain → List FrameItem → Chain
chain_after chain [] = chain
chain_after chain (i ∷ is) = chain_after (chained chain (chain_item i)) is

-- the number of the last entry
abbrev pub last_seq : Frame → ℕ
last_seq f = f.first + length f.items - 1

-- the chain value that a frame gives to entry `seq`, from the one before its first to its last
abbrev pub frame_value : Frame → ℕ → List ℕ
frame_value f seq =
    (chain_after (record { value = f.prev; seq = f.first }) (take (seq + 1 - f.first) f.items)).value

-- the time of the last item
abbrev pub last_item_time : ℕ → List FrameItem → ℕ
last_item_time before [] = before
last_item_time before (i ∷ is) = last_item_time (item_time i) is

-- a message that came from neighbour n
abbrev pub received_from : ℕ → Option Content → Option (List ℕ)
received_from n (Some (Recv m as4 raw)) = if m == n then Some raw else None
received_from n other = None

abbrev pub receipt_in : ℕ → FrameItem → Option (List ℕ)
receipt_in n (Shown e) = received_from n (content_of e)
receipt_in n (Hidden time kind digest) = None

-- the receipts: the messages of its shown RECVs with this number after entry `seq`, in order
abbrev pub receipts : ℕ → ℕ → Frame → List (List ℕ)
receipts n seq f = filter_map (receipt_in n) (drop (seq + 1 - f.first) f.items)

-- ---- the verdict

-- The authenticator is signed under the root, and speaks of the frame's last item.
abbrev pub is_signed_end : List ℕ → Frame → Bool
is_signed_end root f =
    is_signed root f.auth
    && (f.auth.asn == f.from_as && (f.auth.seq == last_seq f
    && (f.auth.time == last_item_time 0 f.items && bytes_eq f.auth.hash (frame_value f (last_seq f)))))

-- The frame speaks of the kept entry and gives it another value.
abbrev pub is_conflicting : View → Frame → Bool
is_conflicting v f =
    nat_le f.first (v.seq + 1) && (nat_le v.seq (last_seq f) && not (bytes_eq (frame_value f v.seq) v.hash))

-- Each receipt is matched with the next message of equal bytes after those that are matched already. The first that
-- finds none is disputed, by its number from 0; where all find one, it is acknowledged up to the last of these.
unfoldable pub matched : (upto i : ℕ) (receipts sends : List (List ℕ)) → Verdict
matched upto i [] sends = Accepted upto
matched upto i (receipt ∷ others) [] = Disputed i
matched upto i (receipt ∷ others) (send ∷ sends) =
    if bytes_eq receipt send then matched (upto + 1) (i + 1) others sends
    else matched (upto + 1) i (receipt ∷ others) sends

-- the first line that applies
unfoldable pub verdict : View → Frame → Verdict
verdict v f =
    if not (is_signed_end v.root f) then Unsigned else
    (if nat_lt v.seq (f.first - 1) then Unlinked else
    (if is_conflicting v f then Conflict v.seq v.hash (frame_value f v.seq) else
    (if nat_le (last_seq f) v.seq then Old else
    matched v.upto 0 (receipts v.number v.seq f) v.pending)))
