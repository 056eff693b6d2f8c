-- The reading of contents, field by field.
use Rattle.std.specs.Prelude.{if◌then◌else◌, ℕ, ◌==◌, ◌||◌, Bool, Err, List, Ok, Option, Result, nat_le, nat_lt}
use Rattle.std.specs.Result.{result_ok}
use Rattle.nr_spec_wire.specs.Reading.{◌>>=◌, Read, Spot, bytes_at, ends_at, number_at, start_of, wants}
use Rattle.nr_spec_log.specs.Chain.{LogEntry}
use Rattle.nr_spec_log.specs.Authenticator.{digest_size}
use Rattle.nr_spec_entry.specs.Contents.{Ack, Checkpoint, Commit, Content, Promise, Recv, Send, State, auditor, most_delay, most_neighbours, promise_kind}

abbrev pub neighbour_at : Spot → Read ℕ
neighbour_at s = do
  any ← number_at 2 s
  wants (nat_lt any.0 most_neighbours) s.at any

-- a message: all that is left after the neighbour and the flag
pub record Exchange : Type 0 where
  pub neighbour : ℕ
  pub as4 : Bool
  pub raw : List ℕ

unfoldable pub exchange_at : Spot → Result Exchange ℕ
exchange_at s = do
  neighbour ← neighbour_at s
  any ← number_at 1 neighbour.1
  as4 ← wants (nat_le any.0 1) neighbour.1.at any
  Ok (record { neighbour = neighbour.0; as4 = as4.0 == 1; raw = as4.1.rest })

abbrev pub sent : Exchange → Content
sent x = Send x.neighbour x.as4 x.raw

abbrev pub received : Exchange → Content
received x = Recv x.neighbour x.as4 x.raw

unfoldable pub state_at : Spot → Result Content ℕ
state_at s = do
  neighbour ← neighbour_at s
  old ← number_at 2 neighbour.1
  new ← number_at 2 old.1
  ends_at new.1 (State neighbour.0 old.0 new.0)

unfoldable pub ack_at : Spot → Result Content ℕ
ack_at s = do
  neighbour ← neighbour_at s
  upto ← number_at 8 neighbour.1
  seq ← number_at 8 upto.1
  time ← number_at 8 seq.1
  hash ← bytes_at digest_size time.1
  sig ← bytes_at digest_size hash.1
  ends_at sig.1 (Ack neighbour.0 upto.0 seq.0 time.0 hash.0 sig.0)

unfoldable pub commit_at : Spot → Result Content ℕ
commit_at s = do
  any ← number_at 2 s
  neighbour ← wants (nat_lt any.0 most_neighbours || any.0 == auditor) s.at any
  leaf ← number_at 4 neighbour.1
  ends_at leaf.1 (Commit neighbour.0 leaf.0)

unfoldable pub checkpoint_at : Spot → Result Content ℕ
checkpoint_at s = do
  body ← bytes_at digest_size s
  ends_at body.1 (Checkpoint body.0)

unfoldable pub promise_at : Spot → Result Content ℕ
promise_at s = do
  file ← bytes_at digest_size s
  any_count ← number_at 2 file.1
  count ← wants (nat_le any_count.0 most_neighbours) file.1.at any_count
  any_delay ← number_at 4 count.1
  delay ← wants (nat_le any_delay.0 most_delay) count.1.at any_delay
  ends_at delay.1 (Promise file.0 count.0 delay.0)

-- the content of a kind; any other kind is outside the grammar
unfoldable pub content_at : ℕ → Spot → Result Content ℕ
content_at kind s =
    if kind == 1 then exchange_at s >>= (λ x. Ok (sent x)) else
    (if kind == 2 then exchange_at s >>= (λ x. Ok (received x)) else
    (if kind == 3 then state_at s else
    (if kind == 4 then ack_at s else
    (if kind == 5 then commit_at s else
    (if kind == 6 then checkpoint_at s else
    (if kind == promise_kind then promise_at s else Err s.at))))))

-- the content of a kind in these bytes, where it is in the grammar of its kind
abbrev pub content_in : ℕ → List ℕ → Option Content
content_in kind bytes = result_ok (content_at kind (start_of bytes))

-- the content of an entry
abbrev pub content_of : LogEntry → Option Content
content_of e = content_in e.kind e.content
