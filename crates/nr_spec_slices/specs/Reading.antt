-- Reading an answer file whose body is looked into. The first malformed field of the file is the first in file order, where
-- the fields inside the body count once all of its bytes are there.
use Rattle.std.specs.Prelude.{ℕ, ◌+◌, List, None, Ok, Err, Option, Result, Some, nat_le}
use Rattle.nr_spec_wire.specs.Reading.{Read, Spot, ◌>>=◌, bytes_at, number_at, start_of, wants}
use Rattle.nr_spec_log.specs.Authenticator.{digest_size, magic_at}
use Rattle.nr_spec_log.specs.Answer.{AnswerFile, answer_magic, answer_of, body_at, body_offset, is_body_flag, is_first, is_later, is_prev}
use Rattle.nr_spec_report.specs.Wrong.{Base}
use Rattle.nr_spec_bodies.specs.Reading.{base_of}

-- the body, where each field of the file up to its end is whole and in its range
unfoldable pub front_at : Spot → Read (Option (List ℕ))
front_at s = do
  magic ← magic_at answer_magic s
  asn ← number_at 4 magic.1
  any_first ← number_at 8 asn.1
  first ← wants (is_first any_first.0) asn.1.at any_first
  any_prev ← bytes_at digest_size first.1
  prev ← wants (is_prev asn.0 first.0 any_prev.0) first.1.at any_prev
  any_flag ← number_at 1 prev.1
  flag ← wants (is_body_flag first.0 any_flag.0) prev.1.at any_flag
  body_at (is_later first.0) flag.1

abbrev pub last_in : Result Base ℕ → Result ℕ ℕ
last_in (Ok base) = Ok base.tally.last
last_in (Err place) = Err (body_offset + place)

-- the last time that stands before the entries, or the first malformed field inside the body, counted from the start of
-- the file
abbrev pub last_before : Option (List ℕ) → Result ℕ ℕ
last_before None = Ok 0
last_before (Some body) = last_in (base_of body)

-- the number of entries and the time of the first, which isn't below the last time before it
unfoldable pub first_time_at : ℕ → Spot → Read ℕ
first_time_at last s = do
  any_count ← number_at 4 s
  count ← wants (nat_le 1 any_count.0) s.at any_count
  any_time ← number_at 8 count.1
  wants (nat_le last any_time.0) count.1.at any_time

-- an answer, or the first malformed field of its file
unfoldable pub slice_of : List ℕ → Result AnswerFile ℕ
slice_of bytes = do
  front ← front_at (start_of bytes)
  last ← last_before front.0
  time ← first_time_at last front.1
  answer_of bytes
