-- Answer files: the entries of a log from some entry on, with the value before them and a signed head. An
-- answer that starts after the first entry holds the body of the checkpoint with which it starts.
use Rattle.std.specs.Prelude.{ℕ, zero, suc, ◌+◌, ◌-◌, ◌^◌, ◌<◌, ◌≤◌, ◌≡◌, Bool, true, false, ◌&&◌, ◌||◌, ◌==◌, nat_lt, nat_le, if◌then◌else◌, List, [], ◌∷◌, ◌++◌, length, Option, None, Some, Result, Ok, codes}
use Rattle.std.specs.List.{flat_map}
use Rattle.std.specs.Str.{bytes_eq}
use Rattle.byteorder.specs.Endian.{big_bytes}
use Rattle.nr_spec_wire.specs.Reading.{Spot, Read, ◌>>=◌, start_of, number_at, bytes_at, wants, ends_at}
use Rattle.nr_spec_log.specs.Chain.{LogEntry, genesis_value}
use Rattle.nr_spec_log.specs.Authenticator.{Authenticator, IsAuthenticator, Head, authenticator, digest_size, magic_at, wanted_at}

pub record AnswerFile : Type 0 where
  pub asn : ℕ
  pub first : ℕ  -- the number of the first entry
  pub prev : List ℕ  -- the chain value before it
  pub body : Option (List ℕ)  -- the checkpoint body, where the answer starts after entry 1
  pub entries : List LogEntry
  pub head : Authenticator  -- of the last entry

abbrev pub answer_magic : List ℕ
answer_magic = codes "NRA1"

-- the greatest number of a first entry, and the greatest size of a body in bytes
abbrev pub most_first : ℕ
most_first = 4611686018427387904

abbrev pub most_body : ℕ
most_body = 536870912

-- the kind of a checkpoint
abbrev pub checkpoint_kind : ℕ
checkpoint_kind = 6

-- ---- spelling

abbrev pub entry : LogEntry → List ℕ
entry e = big_bytes 8 e.time ++ (big_bytes 1 e.kind ++ (big_bytes 2 (length e.content) ++ e.content))

-- a flag, and after a 1 the length and the body
abbrev pub body_field : Option (List ℕ) → List ℕ
body_field None = 0 ∷ []
body_field (Some body) = 1 ∷ (big_bytes 4 (length body) ++ body)

abbrev pub answer_file : AnswerFile → List ℕ
answer_file a =
    answer_magic ++ (big_bytes 4 a.asn ++ (big_bytes 8 a.first ++ (a.prev ++ (body_field a.body
    ++ (big_bytes 4 (length a.entries) ++ (flat_map entry a.entries ++ authenticator a.head))))))

pub record IsEntry (e : LogEntry) : Type 0 where
  pub time : e.time < 2 ^ 64
  pub kind : e.kind < 256
  pub content : length e.content < 2 ^ 16

-- entries that fit, whose times don't run back after this one
abbrev pub AreEntriesFrom : ℕ → List LogEntry → Type 0
AreEntriesFrom last [] = Unit {0}
AreEntriesFrom last (e ∷ es) = IsEntry e × (last ≤ e.time) × AreEntriesFrom e.time es

-- the time of the last entry
abbrev pub last_time : ℕ → List LogEntry → ℕ
last_time before [] = before
last_time before (e ∷ es) = last_time e.time es

-- the first entry is a checkpoint's
abbrev pub IsCheckpointFirst : List LogEntry → Type 0
IsCheckpointFirst [] = Unit {0}
IsCheckpointFirst (e ∷ es) = (e.kind ≡ checkpoint_kind) × (length e.content ≡ digest_size)

-- what the first entry's number asks of the value before it, of the body and of the first entry
abbrev pub StartsAt : ℕ → AnswerFile → Type 0
StartsAt zero a = ⊥
StartsAt (suc zero) a = (a.prev ≡ genesis_value a.asn) × (a.body ≡ None)
StartsAt (suc (suc n)) a =
    (body : List ℕ) × (a.body ≡ Some body) × (length body ≤ most_body) × IsCheckpointFirst a.entries

-- what has a spelling
pub record IsAnswer (a : AnswerFile) : Type 0 where
  pub asn : a.asn < 2 ^ 32
  pub first : a.first ≤ most_first
  pub prev : length a.prev ≡ digest_size
  pub start : StartsAt a.first a
  pub least : 1 ≤ length a.entries
  pub most : length a.entries < 2 ^ 32
  pub entries : AreEntriesFrom 0 a.entries
  pub head : IsAuthenticator a.head
  pub head_asn : a.head.asn ≡ a.asn
  pub head_seq : a.head.seq + 1 ≡ a.first + length a.entries
  pub head_time : a.head.time ≡ last_time 0 a.entries

-- ---- reading

abbrev pub is_first : ℕ → Bool
is_first first = nat_le 1 first && nat_le first most_first

-- the offset of a body in its file
abbrev pub body_offset : ℕ
body_offset = 53

-- A log begins with its genesis value; after the first entry any value may stand.
abbrev pub is_prev : ℕ → ℕ → List ℕ → Bool
is_prev asn first prev = nat_lt 1 first || bytes_eq prev (genesis_value asn)

-- the flag is 0 at the first entry, and 1 after it
abbrev pub is_body_flag : ℕ → ℕ → Bool
is_body_flag first flag = flag == (if nat_lt 1 first then 1 else 0)

unfoldable pub body_at : Bool → Spot → Read (Option (List ℕ))
body_at false s = Ok (None, s)
body_at true s = do
  any ← number_at 4 s
  size ← wants (nat_le any.0 most_body) s.at any
  body ← bytes_at size.0 size.1
  Ok (Some body.0, body.1)

-- a number that is asked for, or any where none is
abbrev pub is_wanted : Bool → ℕ → ℕ → Bool
is_wanted false n wanted = true
is_wanted true n wanted = n == wanted

-- an entry not before the last time, and where that is asked a checkpoint's
unfoldable pub entry_at : Bool → ℕ → Spot → Read LogEntry
entry_at checkpoint last s = do
  any_time ← number_at 8 s
  time ← wants (nat_le last any_time.0) s.at any_time
  any_kind ← number_at 1 time.1
  kind ← wants (is_wanted checkpoint any_kind.0 checkpoint_kind) time.1.at any_kind
  any_size ← number_at 2 kind.1
  size ← wants (is_wanted checkpoint any_size.0 digest_size) kind.1.at any_size
  content ← bytes_at size.0 size.1
  Ok (record { time = time.0; kind = kind.0; content = content.0 }, content.1)

-- so many entries, whose times don't run back; the first of them a checkpoint's where that is asked
unfoldable pub entries_at : Bool → ℕ → ℕ → Spot → Read (List LogEntry)
entries_at checkpoint last zero s = Ok ([], s)
entries_at checkpoint last (suc n) s = do
  first ← entry_at checkpoint last s
  others ← entries_at false first.0.time n first.1
  Ok (first.0 ∷ others.0, others.1)

-- what stands before the entries
pub record Opening : Type 0 where
  pub asn : ℕ
  pub first : ℕ
  pub prev : List ℕ
  pub body : Option (List ℕ)
  pub count : ℕ

-- The answer starts after entry 1.
abbrev pub is_later : ℕ → Bool
is_later first = nat_lt 1 first

unfoldable pub opening_at : Spot → Read Opening
opening_at s = do
  magic ← magic_at answer_magic s
  asn ← number_at 4 magic.1
  any_first ← number_at 8 asn.1
  first ← wants (is_first any_first.0) asn.1.at any_first
  any_prev ← bytes_at digest_size first.1
  prev ← wants (is_prev asn.0 first.0 any_prev.0) first.1.at any_prev
  any_flag ← number_at 1 prev.1
  flag ← wants (is_body_flag first.0 any_flag.0) prev.1.at any_flag
  body ← body_at (is_later first.0) flag.1
  any_count ← number_at 4 body.1
  count ← wants (nat_le 1 any_count.0) body.1.at any_count
  Ok (record { asn = asn.0; first = first.0; prev = prev.0; body = body.0; count = count.0 }, count.1)

-- what the head has to speak of: the last entry
abbrev pub head_of : Opening → List LogEntry → Head
head_of o entries = record { asn = o.asn; seq = o.first + o.count - 1; time = last_time 0 entries }

abbrev pub answer_from : Opening → List LogEntry → Authenticator → AnswerFile
answer_from o entries head =
    record { asn = o.asn; first = o.first; prev = o.prev; body = o.body; entries = entries; head = head }

unfoldable pub answer_of : List ℕ → Result AnswerFile ℕ
answer_of bytes = do
  opening ← opening_at (start_of bytes)
  entries ← entries_at (is_later opening.0.first) 0 opening.0.count opening.1
  head ← wanted_at (Some (head_of opening.0 entries.0)) entries.1
  ends_at head.1 (answer_from opening.0 entries.0 head.0)
